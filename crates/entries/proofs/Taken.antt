-- Which entries are taken in form. Assumes nothing.
use Rattle.std.proofs.Common.{◌≡◌, ℕ, Bool, true, false, cond, ◌&&◌, eqb, List, [], ◌∷◌, Some, None, Ok, Err, Option, Result, refl, ap, subst, arith}
use Rattle.std.proofs.lemmas.Bool.{and_parts}
use Rattle.std.proofs.lemmas.Bool.Decides.{nat_tests}
use Rattle.std.specs.Option.{option_map, ok_or}
use Rattle.orders.specs.Codes.{named}
use Rattle.orders.specs.Letters.{kind_letter, kinds, side_letter, sides, time_letter, times}
use Rattle.orders.specs.Phases.{all_sessions, designation_of, session_set}
use Rattle.orders.specs.Refusals.{direct, layer}
use Rattle.orders.specs.declared.entry.Entry.{Entry}
use Rattle.orders.specs.declared.kind.Kind.{Kind}
use Rattle.orders.specs.declared.kind.Kind.TheVariants.{Limit, AllOrNone, MinimumQuantity, FillOrKill}
use Rattle.orders.specs.declared.refusal.Layer.TheVariants.{Form}
use Rattle.orders.specs.declared.refusal.Reason.{Reason}
use Rattle.orders.specs.declared.refusal.Reason.TheVariants.{UnknownSide, PriceOutOfRange, QuantityOutOfRange, KindNotAllowed, MinimumNotAllowed, TimeNotAllowed, DesignationNotAllowed, DateNotAllowed}
use Rattle.orders.specs.declared.refusal.Refusal.{Refusal}
use Rattle.orders.specs.declared.sessions.Sessions.{Sessions}
use Rattle.orders.specs.declared.side.Side.{Side}
use Rattle.orders.specs.declared.side.Side.TheVariants.{Buy, Sell}
use Rattle.orders.specs.declared.time.TimeInForce.{TimeInForce}
use Rattle.orders.specs.declared.time.TimeInForce.TheVariants.{Day, GoodTillCancelled, GoodTillDate}
use Rattle.editions.specs.Text.{Text, terms}
use Rattle.entries.specs.Form.{◌>>=◌, checked, choose, date_check, date_fits, designation_check, form, in_bounds, kind_check, may_designate, minimum_check, minimum_fits, price_check, quantity_check, require, side_check, time_check, time_fits}
use Rattle.entries.specs.Taken.{Fits, RefusedByField, Says, designation_fits, number_of}
use Rattle.entries.specs.declared.checked.CheckedEntry.{CheckedEntry}

-- a chain of checks that passes, passes the first of them and goes on with what that makes
bind_ok : {A B : Type 0} {P : Type 0} (m : Result A Refusal) (f : A → Result B Refusal) (y : B) → ◌>>=◌ m f ≡ Ok y →
    ((x : A) → m ≡ Ok x → f x ≡ Ok y → P) → P
bind_ok (Ok x) f y e go = go x refl e
bind_ok (Err r) f y e go = cc

ok_bind : {A B : Type 0} (m : Result A Refusal) (f : A → Result B Refusal) (x : A) (y : B) → m ≡ Ok x → f x ≡ Ok y → ◌>>=◌ m f ≡ Ok y
ok_bind m f x y e h = rw e h

require_ok : (b : Bool) (r : Reason) (u : Unit {0}) → require b r ≡ Ok u → b ≡ true
require_ok true r u e = refl
require_ok false r u e = cc

choose_ok : {A : Type 0} (test : A → Bool) (o : Option A) (r : Reason) (x : A) → choose test o r ≡ Ok x → (o ≡ Some x) × (test x ≡ true)
choose_ok test None r x e = cc
choose_ok test (Some y) r x e = grind (arith, nat_tests)

named_ok : {A : Type 0} (code : A → ℕ) (cases : List A) (n : ℕ) (x : A) → named code cases n ≡ Some x → code x ≡ n
named_ok code [] n x e = cc
named_ok code (y ∷ ys) n x e = let more = named_ok code ys n x in grind (arith, nat_tests)

ok_or-ok : {A : Type 0} (o : Option A) (r : Refusal) (x : A) → ok_or o r ≡ Ok x → o ≡ Some x
ok_or-ok None r x e = cc
ok_or-ok (Some y) r x e = cc

-- the check of a designation, by whether it is none, and by the sessions that it stands for
abbrev asked : Kind → TimeInForce → Bool → Option Sessions → Result (Option Sessions) Refusal
asked k x none o = cond none (Ok None) (choose (λ _. may_designate k x) (option_map Some o) DesignationNotAllowed)

-- a designation that passes: none, or one of sessions
designation_ok : (k : Kind) (x : TimeInForce) (n : ℕ) (none : Bool) (o d : Option Sessions) → eqb n 0 ≡ none → named designation_of all_sessions n ≡ o →
    asked k x none o ≡ Ok d → (number_of d ≡ n) × (designation_fits k x d ≡ true)
designation_ok k x n true o d i h e = grind (arith, nat_tests)
designation_ok k x n false None d i h e = cc
designation_ok k x n false (Some s) d i h e = let m = named_ok designation_of all_sessions n s h in grind (arith, nat_tests)

pub taken : (t : Text) (e : Entry) (x : CheckedEntry) → form t e ≡ Ok x → Says e x × Fits t x
taken t e x h =
    bind_ok (side_check e) _ x h (λ side s h.
    bind_ok (price_check e) _ x h (λ _ p h.
    bind_ok (quantity_check e) _ x h (λ _ q h.
    bind_ok (kind_check t e) _ x h (λ kind k h.
    bind_ok (minimum_check kind e) _ x h (λ _ m h.
    bind_ok (time_check t kind e) _ x h (λ time w h.
    bind_ok (designation_check kind time e) _ x h (λ designation d h.
    bind_ok (date_check time e) _ x h (λ _ y h.
    let of-side = named_ok side_letter sides e.side side (ok_or-ok (named side_letter sides e.side) (direct UnknownSide) side s) in
    let of-kind = choose_ok t.kinds (named kind_letter kinds e.kind) KindNotAllowed kind k in
    let of-time = choose_ok (λ z. t.times z && time_fits kind z) (named time_letter times e.time) TimeNotAllowed time w in
    let both = and_parts (t.times time) (time_fits kind time) of-time.1 in
    let asked = designation_ok kind time e.designation _ _ designation refl refl d in
    let whole : checked e side kind time designation ≡ x = cc in
    rw (← whole) (
      record {
        member = refl;
        side = of-side;
        price = refl;
        quantity = refl;
        kind = named_ok kind_letter kinds e.kind kind of-kind.0;
        minimum = refl;
        time = named_ok time_letter times e.time time of-time.0;
        designation = asked.0;
        date = refl;
      },
      record {
        price = require_ok (in_bounds e.price) PriceOutOfRange _ p;
        quantity = require_ok (in_bounds e.quantity) QuantityOutOfRange _ q;
        kind = of-kind.1;
        minimum = require_ok (minimum_fits (terms kind e.minimum) e.quantity) MinimumNotAllowed _ m;
        time = both.0;
        time_of_kind = both.1;
        designation = asked.1;
        date = require_ok (date_fits time e.date) DateNotAllowed _ y;
      },
    )))))))))

-- the way back of each letter and of each designation
side_back : (x : Side) → named side_letter sides (side_letter x) ≡ Some x
side_back Buy = refl
side_back Sell = refl

kind_back : (x : Kind) → named kind_letter kinds (kind_letter x) ≡ Some x
kind_back Limit = refl
kind_back AllOrNone = refl
kind_back MinimumQuantity = refl
kind_back FillOrKill = refl

time_back : (x : TimeInForce) → named time_letter times (time_letter x) ≡ Some x
time_back Day = refl
time_back GoodTillCancelled = refl
time_back GoodTillDate = refl

sessions_back : (o c l : Bool) → named designation_of all_sessions (designation_of (session_set o c l)) ≡ Some (session_set o c l)
sessions_back false false false = refl
sessions_back true false false = refl
sessions_back false true false = refl
sessions_back true true false = refl
sessions_back false false true = refl
sessions_back true false true = refl
sessions_back false true true = refl
sessions_back true true true = refl

ok_require : (b : Bool) (r : Reason) → b ≡ true → require b r ≡ Ok tt
ok_require b r h = rw h

ok_choose : {A : Type 0} (test : A → Bool) (o : Option A) (r : Reason) (x : A) → o ≡ Some x → test x ≡ true → choose test o r ≡ Ok x
ok_choose test o r x h i = rw (h, i)

ok_designation : (k : Kind) (x : TimeInForce) (d : Option Sessions) → designation_fits k x d ≡ true →
    asked k x (eqb (number_of d) 0) (named designation_of all_sessions (number_of d)) ≡ Ok d
ok_designation k x None h = refl
ok_designation k x (Some s) h = let back = sessions_back s.opening s.core s.late in grind (arith, nat_tests)

minimum_moves : (k : Kind) (m n q r : ℕ) → m ≡ n → q ≡ r → minimum_fits (terms k m) q ≡ true → minimum_fits (terms k n) r ≡ true
minimum_moves k m n q r e h f =
    subst (λ i. minimum_fits (terms k n) i ≡ true) h (subst (λ i. minimum_fits (terms k i) q ≡ true) e f)

pub fitting : (t : Text) (e : Entry) (x : CheckedEntry) → Says e x → Fits t x → form t e ≡ Ok x
fitting t e x s f =
    ok_bind (side_check e) _ x.side x (rw (← s.side, side_back x.side)) (
    ok_bind (price_check e) _ tt x (ok_require (in_bounds e.price) PriceOutOfRange (rw (← s.price) f.price)) (
    ok_bind (quantity_check e) _ tt x (ok_require (in_bounds e.quantity) QuantityOutOfRange (rw (← s.quantity) f.quantity)) (
    ok_bind (kind_check t e) _ x.terms.kind x (ok_choose t.kinds (named kind_letter kinds e.kind) KindNotAllowed x.terms.kind (rw (← s.kind) (kind_back x.terms.kind)) f.kind) (
    ok_bind (minimum_check x.terms.kind e) _ tt x (ok_require (minimum_fits (terms x.terms.kind e.minimum) e.quantity) MinimumNotAllowed (minimum_moves x.terms.kind _ _ _ _ s.minimum s.quantity f.minimum)) (
    ok_bind (time_check t x.terms.kind e) _ x.time x
    (ok_choose (λ z. t.times z && time_fits x.terms.kind z) (named time_letter times e.time) TimeNotAllowed x.time (rw (← s.time) (time_back x.time)) (rw (f.time, f.time_of_kind))) (
    ok_bind (designation_check x.terms.kind x.time e) _ x.designation x (rw (← s.designation) (ok_designation x.terms.kind x.time x.designation f.designation)) (
    ok_bind (date_check x.time e) _ tt x (ok_require (date_fits x.time e.date) DateNotAllowed (rw (← s.date) f.date))
    (rw (← s.member, ← s.price, ← s.quantity, ← s.minimum, ← s.date)))))))))

-- a refusal by one of the checks of form
abbrev OfForm : Refusal → Type 0
OfForm r = (layer r.reason ≡ Form) × (r ≡ direct r.reason)

abbrev Refuses : {A : Type 0} → Result A Refusal → Type 0
Refuses m = (r : Refusal) → m ≡ Err r → OfForm r

err_refuses : {A : Type 0} (why : Reason) → layer why ≡ Form → Refuses {A = A} (Err (direct why))
err_refuses why h r e = let s : direct why ≡ r = cc in rw (← s) (h, refl)

ok_refuses : {A : Type 0} (x : A) → Refuses (Ok x)
ok_refuses x r e = cc

bind_refuses : {A B : Type 0} (m : Result A Refusal) (f : A → Result B Refusal) → Refuses m → ((x : A) → Refuses (f x)) → Refuses (◌>>=◌ m f)
bind_refuses (Ok x) f h k r e = k x r e
bind_refuses (Err s) f h k r e = let i : s ≡ r = cc in h r (ap Err i)

require_refuses : (b : Bool) (why : Reason) → layer why ≡ Form → Refuses (require b why)
require_refuses true why h = ok_refuses tt
require_refuses false why h = err_refuses why h

choose_refuses : {A : Type 0} (test : A → Bool) (o : Option A) (why : Reason) → layer why ≡ Form → Refuses (choose test o why)
choose_refuses test None why h r e = err_refuses why h r e
choose_refuses test (Some x) why h r e = grind (arith, nat_tests)

side_refuses : (o : Option Side) → Refuses (ok_or o (direct UnknownSide))
side_refuses None = err_refuses UnknownSide refl
side_refuses (Some x) = ok_refuses x

designation_refuses : (none : Bool) (k : Kind) (x : TimeInForce) (o : Option Sessions) → Refuses (asked k x none o)
designation_refuses true k x o = ok_refuses None
designation_refuses false k x o = choose_refuses (λ _. may_designate k x) (option_map Some o) DesignationNotAllowed refl

pub refused_by_field : (t : Text) → RefusedByField t
refused_by_field t e =
    bind_refuses (side_check e) _ (side_refuses (named side_letter sides e.side)) (λ side.
    bind_refuses (price_check e) _ (require_refuses (in_bounds e.price) PriceOutOfRange refl) (λ _.
    bind_refuses (quantity_check e) _ (require_refuses (in_bounds e.quantity) QuantityOutOfRange refl) (λ _.
    bind_refuses (kind_check t e) _ (choose_refuses t.kinds (named kind_letter kinds e.kind) KindNotAllowed refl) (λ kind.
    bind_refuses (minimum_check kind e) _ (require_refuses (minimum_fits (terms kind e.minimum) e.quantity) MinimumNotAllowed refl) (λ _.
    bind_refuses (time_check t kind e) _ (choose_refuses (λ x. t.times x && time_fits kind x) (named time_letter times e.time) TimeNotAllowed refl) (λ time.
    bind_refuses (designation_check kind time e) _ (designation_refuses (eqb e.designation 0) kind time (named designation_of all_sessions e.designation)) (λ designation.
    bind_refuses (date_check time e) _ (require_refuses (date_fits time e.date) DateNotAllowed refl) (λ _. ok_refuses _))))))))
