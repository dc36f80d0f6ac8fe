-- The checks of an entry's form, under the text t of an edition. Assumes nothing.
--     in_bounds n               n is from 1 to 1,000,000
--     minimum_fits x q          an entry of quantity q may have the terms x
--     time_fits k x             an entry of kind k may have the time in force x
--     may_designate k x         an entry of kind k and time in force x may ask for sessions
--     date_fits x d             an entry of time in force x may have the date d
--     side_check e .. date_check x e      what each check of the entry e makes, or its refusal
--     form t e                  the checked entry, or the refusal of the first check that fails
-- A check is named by the field that it is about. They run in the order of their refusals' numbers, 6 to 13.
use Rattle.std.specs.Prelude.{ℕ, Bool, true, cond, not, ◌&&◌, ◌||◌, Some, None, Ok, Err, Option, Result, ◌==◌}
use Rattle.std.specs.Int.{is_in_range}
use Rattle.std.specs.Option.{option_map, ok_or}
use Rattle.orders.specs.Codes.{named}
use Rattle.orders.specs.Letters.{kind_letter, kinds, side_letter, sides, time_letter, times}
use Rattle.orders.specs.Phases.{all_sessions, designation_of}
use Rattle.orders.specs.Refusals.{direct}
use Rattle.orders.specs.declared.entry.Entry.{Entry}
use Rattle.orders.specs.declared.kind.Kind.{Kind}
use Rattle.orders.specs.declared.kind.Kind.TheVariants.{MinimumQuantity}
use Rattle.orders.specs.declared.refusal.Reason.{Reason}
use Rattle.orders.specs.declared.refusal.Reason.TheVariants.{UnknownSide, PriceOutOfRange, QuantityOutOfRange, KindNotAllowed, MinimumNotAllowed, TimeNotAllowed, DesignationNotAllowed, DateNotAllowed}
use Rattle.orders.specs.declared.refusal.Refusal.{Refusal}
use Rattle.orders.specs.declared.sessions.Sessions.{Sessions}
use Rattle.orders.specs.declared.side.Side.{Side}
use Rattle.orders.specs.declared.terms.Terms.{Terms}
use Rattle.orders.specs.declared.time.TimeInForce.{TimeInForce}
use Rattle.orders.specs.declared.time.TimeInForce.TheVariants.{Day, GoodTillCancelled, GoodTillDate}
use Rattle.editions.specs.Text.{Text, terms}
use Rattle.entries.specs.Cases.{is_day, is_kill}
use Rattle.entries.specs.declared.checked.CheckedEntry.{CheckedEntry}

infixr 10 ◌>>=◌
abbrev pub in_bounds : ℕ → Bool
in_bounds n = is_in_range 1 1000000 n

abbrev pub minimum_fits : Terms → ℕ → Bool
minimum_fits x q = elim x.kind [ MinimumQuantity ↦ is_in_range 1 q x.minimum | _ ↦ x.minimum == 0 ]

-- D for F
abbrev pub time_fits : Kind → TimeInForce → Bool
time_fits k x = is_day x || not (is_kill k)

-- neither C nor G nor F
abbrev pub may_designate : Kind → TimeInForce → Bool
may_designate k x = is_day x && not (is_kill k)

abbrev pub date_fits : TimeInForce → ℕ → Bool
date_fits Day d = d == 0
date_fits GoodTillCancelled d = d == 0
date_fits GoodTillDate d = true

-- passes if the test holds
abbrev pub require : Bool → Reason → Result (Unit {0}) Refusal
require fits r = cond fits (Ok tt) (Err (direct r))

-- passes if there is a value and the test holds of it
abbrev pub choose : {A : Type 0} → (A → Bool) → Option A → Reason → Result A Refusal
choose test None r = Err (direct r)
choose test (Some x) r = cond (test x) (Ok x) (Err (direct r))

abbrev pub side_check : Entry → Result Side Refusal
side_check e = ok_or (named side_letter sides e.side) (direct UnknownSide)

abbrev pub price_check : Entry → Result (Unit {0}) Refusal
price_check e = require (in_bounds e.price) PriceOutOfRange

abbrev pub quantity_check : Entry → Result (Unit {0}) Refusal
quantity_check e = require (in_bounds e.quantity) QuantityOutOfRange

abbrev pub kind_check : Text → Entry → Result Kind Refusal
kind_check t e = choose t.kinds (named kind_letter kinds e.kind) KindNotAllowed

abbrev pub minimum_check : Kind → Entry → Result (Unit {0}) Refusal
minimum_check k e = require (minimum_fits (terms k e.minimum) e.quantity) MinimumNotAllowed

abbrev pub time_check : Text → Kind → Entry → Result TimeInForce Refusal
time_check t k e = choose (λ x. t.times x && time_fits k x) (named time_letter times e.time) TimeNotAllowed

-- no designation, or one of sessions
abbrev pub designation_check : Kind → TimeInForce → Entry → Result (Option Sessions) Refusal
designation_check k x e =
    cond (e.designation == 0) (Ok None)
    (choose (λ _. may_designate k x) (option_map Some (named designation_of all_sessions e.designation)) DesignationNotAllowed)

abbrev pub date_check : TimeInForce → Entry → Result (Unit {0}) Refusal
date_check x e = require (date_fits x e.date) DateNotAllowed

-- goes on with what a check makes, or stops at its refusal
abbrev pub ◌>>=◌ : {A B : Type 0} → Result A Refusal → (A → Result B Refusal) → Result B Refusal
◌>>=◌ (Ok x) next = next x
◌>>=◌ (Err r) next = Err r

-- an entry with what the checks made of its letters and its designation
abbrev pub checked : Entry → Side → Kind → TimeInForce → Option Sessions → CheckedEntry
checked e side kind time designation = record {
  member = e.member;
  side = side;
  price = e.price;
  quantity = e.quantity;
  terms = terms kind e.minimum;
  time = time;
  designation = designation;
  date = e.date;
}

abbrev pub form : Text → Entry → Result CheckedEntry Refusal
form t e =
    side_check e >>= λ side.
    price_check e >>= λ _.
    quantity_check e >>= λ _.
    kind_check t e >>= λ kind.
    minimum_check kind e >>= λ _.
    time_check t kind e >>= λ time.
    designation_check kind time e >>= λ designation.
    date_check time e >>= λ _.
    Ok (checked e side kind time designation)
