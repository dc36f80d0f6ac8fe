-- What the used slots of a row hold after each change. Assumes nothing.
use Rattle.std.proofs.Common.{◌≡◌, ℕ, suc, ◌+◌, ◌-◌, ◌<◌, ◌≤◌, List, [], ◌∷◌, ◌++◌, length, take, drop, set, sym, ap, ◌∙◌, append_assoc, add-one, arith, length-append, length-drop, length-take, get_or-take}
use lib.Seq.{take-set-lt}
use Rattle.std.specs.List.{insert, remove}
use Rattle.std.proofs.lemmas.List.{set-append_left, take_more_set, take_at, take-take, drop-take}
use Rattle.orders.specs.declared.order.Order.{Order}
use Rattle.orders.specs.declared.terms.Terms.{Terms}
use Rattle.shelves.specs.Lists.{nobody, renewed, rewritten}
use Rattle.row.specs.declared.packed.Packed.{Packed}
use Rattle.row.specs.Packed.{closed, front, opened, room}

-- the first n of a list at a place below n, and what its places from p on are
module _ (s : List Order) (n p : ℕ) where
  before_place : p ≤ n → take p (take n s) ≡ take p s
  before_place = take-take p n s

  from_place : p ≤ n → drop p (take n s) ≡ take (n - p) (drop p s)
  from_place h = let e : p + (n - p) ≡ n = omega arith in ap (λ k. drop p (take k s)) (sym e) ∙ drop-take p (n - p) s

-- the used slots are as many as they say
pub length_front : (t : Packed) → t.used ≤ room t → length (front t) ≡ t.used
length_front t fits = simp length-take (omega arith)

module _ (t : Packed) (p : ℕ) where
  pub front-opened : (o : Order) → p ≤ t.used → t.used < room t → take (t.used + 1) (opened t p o) ≡ insert (front t) p o
  front-opened o h l =
      let s = t.at.now in
      let n = t.used in
      let mid = take (n - p) (drop p s) in
      let rest = drop (p + 1 + (n - p)) s in
      let head : length (take (p + 1) s) ≡ p + 1 = simp length-take (omega arith) in
      let fore : set (take (p + 1) s) p o ≡ take p s ++ (o ∷ []) = sym (take-set-lt (p + 1) s p o (omega arith)) ∙ take_more_set s p o (omega arith) in
      let whole : opened t p o ≡ ((take p s ++ (o ∷ [])) ++ mid) ++ rest =
      set-append_left (take (p + 1) s ++ mid) rest p o (simp length-append (omega arith))
      ∙ ap (λ z. z ++ rest) (set-append_left (take (p + 1) s) mid p o (omega arith) ∙ ap (λ z. z ++ mid) fore) in
      let long : length ((take p s ++ (o ∷ [])) ++ mid) ≡ n + 1 = simp (length-append, length-take, length-drop) (omega arith) in
      ap (take (n + 1)) whole ∙ take_at ((take p s ++ (o ∷ [])) ++ mid) rest (n + 1) long
      ∙ append_assoc (take p s) (o ∷ []) mid
      ∙ rw (before_place s n p h, from_place s n p h)

  pub front-closed : p < t.used → t.used ≤ room t → take (t.used - 1) (closed t p) ≡ remove (front t) p
  front-closed h l =
      let s = t.at.now in
      let n = t.used in
      let mid = take (n - (p + 1)) (drop (p + 1) s) in
      let rest = drop (p + (n - (p + 1))) s in
      let long : length (take p s ++ mid) ≡ n - 1 = simp (length-append, length-take, length-drop) (omega arith) in
      let tail : drop (suc p) (take n s) ≡ mid = ap (λ k. drop k (take n s)) (sym (add-one p)) ∙ from_place s n (p + 1) (omega arith) in
      take_at (take p s ++ mid) rest (n - 1) long
      ∙ rw (before_place s n p (omega arith), tail)

  pub front-renewed : (b : ℕ) (x : Terms) → p < t.used → take t.used (rewritten t.at.now p b x) ≡ rewritten (front t) p b x
  front-renewed b x h =
      take-set-lt t.used t.at.now p _ h
      ∙ ap (λ o. set (front t) p (renewed o b x)) (sym (get_or-take t.used t.at.now p nobody h))
