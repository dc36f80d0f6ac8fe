-- Which entries are taken in form, and what a refusal tells. Assumes nothing.
--     number_of d             the designation that stands for the sessions asked for, 0 for none
--     designation_fits k x d  an entry of kind k and time in force x may ask for the sessions d, if any
--     Says e x                the checked entry x says what the entry e says
--     Fits t x                x is an entry that an edition with the text t has
--     ExactlyFitting t        an entry is taken exactly as a checked entry that says the same and fits
--     RefusedByField t        a refusal of form is of the layer Form, and its place is the number of a field
use Rattle.std.specs.Prelude.{◌≡◌, ℕ, Bool, true, ◌&&◌, Some, None, Ok, Err, Option, nat_le}
use Rattle.orders.specs.Letters.{kind_letter, side_letter, time_letter}
use Rattle.orders.specs.Phases.{designation_of}
use Rattle.orders.specs.Refusals.{direct, layer}
use Rattle.orders.specs.declared.entry.Entry.{Entry}
use Rattle.orders.specs.declared.kind.Kind.{Kind}
use Rattle.orders.specs.declared.refusal.Layer.TheVariants.{Form}
use Rattle.orders.specs.declared.refusal.Refusal.{Refusal}
use Rattle.orders.specs.declared.sessions.Sessions.{Sessions}
use Rattle.orders.specs.declared.time.TimeInForce.{TimeInForce}
use Rattle.editions.specs.Text.{Text}
use Rattle.entries.specs.Form.{date_fits, form, in_bounds, may_designate, minimum_fits, time_fits}
use Rattle.entries.specs.declared.checked.CheckedEntry.{CheckedEntry}

abbrev pub number_of : Option Sessions → ℕ
number_of None = 0
number_of (Some s) = designation_of s

abbrev pub designation_fits : Kind → TimeInForce → Option Sessions → Bool
designation_fits k x None = true
designation_fits k x (Some s) = may_designate k x && nat_le 1 (designation_of s)

pub record Says (e : Entry) (x : CheckedEntry) : Type 0 where
  pub member : x.member ≡ e.member
  pub side : side_letter x.side ≡ e.side
  pub price : x.price ≡ e.price
  pub quantity : x.quantity ≡ e.quantity
  pub kind : kind_letter x.terms.kind ≡ e.kind
  pub minimum : x.terms.minimum ≡ e.minimum
  pub time : time_letter x.time ≡ e.time
  pub designation : number_of x.designation ≡ e.designation
  pub date : x.date ≡ e.date

pub record Fits (t : Text) (x : CheckedEntry) : Type 0 where
  pub price : in_bounds x.price ≡ true
  pub quantity : in_bounds x.quantity ≡ true
  pub kind : t.kinds x.terms.kind ≡ true
  pub minimum : minimum_fits x.terms x.quantity ≡ true
  pub time : t.times x.time ≡ true
  pub time_of_kind : time_fits x.terms.kind x.time ≡ true
  pub designation : designation_fits x.terms.kind x.time x.designation ≡ true
  pub date : date_fits x.time x.date ≡ true

pub record ExactlyFitting (t : Text) : Type 0 where
  pub taken : (e : Entry) (x : CheckedEntry) → form t e ≡ Ok x → Says e x × Fits t x
  pub fitting : (e : Entry) (x : CheckedEntry) → Says e x → Fits t x → form t e ≡ Ok x

abbrev pub RefusedByField : Text → Type 0
RefusedByField t = (e : Entry) (r : Refusal) → form t e ≡ Err r → (layer r.reason ≡ Form) × (r ≡ direct r.reason)
