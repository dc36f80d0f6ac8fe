-- Where the numbers of linked slots lead. Assumes nothing.
use Rattle.std.proofs.Common.{◌≡◌, ℕ, suc, ◌+◌, ◌-◌, ◌<◌, ◌≤◌, length, Some, None, sym, ap, ◌∙◌, add-one, arith, length-set}
use Rattle.std.specs.List.{slice_get}
use Rattle.std.proofs.lemmas.Option.{slice_get-get_or, slice_get_past}
use Rattle.shelves.specs.Lists.{nobody}
use Rattle.chain.specs.declared.linked.Linked.{Linked}
use Rattle.chain.specs.declared.links.Links.{Links}
use Rattle.chain.specs.declared.trail.Trail.{Trail}
use Rattle.chain.specs.Chains.{ahead, held, room, slot}
use Rattle.chain.specs.Trails.{Inside, length-along, next, order_in, trail}
use Rattle.chain.proofs.Moves.{free_inside, inside_used, once_used}
use Rattle.chain.proofs.Trails.{along_at, follows, inside_next, length-trail, once_apart, starts}

module _ (w : Trail) where
  pub length-ahead : length (ahead w) ≡ w.left
  length-ahead = length-along w.links.now w.left w.at

  pub at_within : 0 < w.left → w.at < length w.links.now
  at_within h = (starts w.links.now w.left w.at w.inside h).1

  pub inside_ahead : 0 < w.left → Inside w.links.now (w.left - 1) (next w.links.now w.at)
  inside_ahead = inside_next w.links.now w.left w.at w.inside

module _ (t : Links) where
  pub length-held : length (held t) ≡ t.used
  length-held = length-along t.at.now t.used t.head

  pub stands_at : (p : ℕ) → p < t.used → slice_get (held t) p ≡ Some (order_in t.at.now (slot t p))
  stands_at p h =
      slice_get-get_or (held t) p nobody (omega (arith, length-held))
      ∙ ap Some (along_at t.at.now t.used t.head p h)

  pub none_at : (p : ℕ) → t.used ≤ p → slice_get (held t) p ≡ None
  none_at p h = slice_get_past (held t) p (omega (arith, length-held))

module _ (t : Linked) where
  pub inside : Inside t.links.at.now t.links.used t.links.head
  inside = inside_used t.links.at.now t.links.used t.links.head t.links.free t.sound

  pub free_slot : t.links.used < room t.links → t.links.free < room t.links
  free_slot = free_inside t.links.at.now t.links.used t.links.head t.links.free t.sound

  pub head_slot : 0 < t.links.used → slot t.links 0 ≡ t.links.head
  head_slot h = sym (starts t.links.at.now t.links.used t.links.head inside h).0

  pub head_within : 0 < t.links.used → t.links.head < room t.links
  head_within h = (starts t.links.at.now t.links.used t.links.head inside h).1

  pub next_slot : (p : ℕ) → p + 1 < t.links.used → slot t.links (p + 1) ≡ next t.links.at.now (slot t.links p)
  next_slot = follows t.links.at.now t.links.used t.links.head

  pub next_within : (p : ℕ) → p + 1 < t.links.used → next t.links.at.now (slot t.links p) < room t.links
  next_within p h = let e = next_slot p h in let i = inside (p + 1) h in omega arith

  pub next_other : (p i : ℕ) → p + 1 < t.links.used → i ≡ slot t.links p → i ≡ next t.links.at.now i → ⊥
  next_other p i h e same =
      let s = t.links.at.now in
      let n = t.links.used in
      let long = length-trail s n t.links.head in
      let there : i ≡ slot t.links (suc p) = same ∙ ap (next s) e ∙ sym (next_slot p h) ∙ ap (slot t.links) (add-one p) in
      once_apart (trail s n t.links.head) p (once_used s n t.links.head t.links.free t.sound) (omega arith) (sym e ∙ there)

pub ruleset places = (length-set, length-ahead, at_within, inside_ahead, length-held, stands_at, none_at, inside, free_slot, head_slot, head_within, next_slot, next_within)
