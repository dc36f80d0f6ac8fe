-- Who is on a shelf's list after a put, a take and a write. Assumes nothing.
use Rattle.std.proofs.Common.{◌≡◌, ℕ, zero, suc, ◌+◌, ◌<◌, Bool, true, not, eqb, ◌⊎◌, List, [], ◌∷◌, length, get_or, take, drop, set, Some, sum_by, sym, refl, ap, ◌∙◌, subst, inl, inr, ⊎_elim, arith}
use Rattle.std.specs.List.{slice_get, insert, remove, AllByRecursion}
use Rattle.std.proofs.ByRecursion.{All-append, All-drop, All-take}
use Rattle.std.proofs.lemmas.List.Sums.{sum_by-insert, sum_by-remove, sum_by-set}
use Rattle.std.proofs.lemmas.Bool.{and_parts, both_ways, eq-eqb, not-true, or_left, or_right}
use Rattle.orders.specs.declared.order.Order.{Order}
use Rattle.orders.specs.declared.terms.Terms.{Terms}
use Rattle.shelves.specs.Laws.{In, Members, Other, Totals}
use Rattle.shelves.specs.Lists.{distinct, has, nobody, place_in, renewed, rewritten}
use Rattle.shelves.specs.Ranks.{Standing}
use Rattle.shelves.proofs.Keeping.{stands}

-- what holds of every member
module _ (P : Order → Type 0) where
  pub all_inserted : (xs : List Order) (i : ℕ) (o : Order) → P o → AllByRecursion P xs → AllByRecursion P (insert xs i o)
  all_inserted xs i o p h = All-append P (take i xs) (o ∷ drop i xs) (All-take P i xs h) (p, All-drop P i xs h)

  pub all_removed : (xs : List Order) (i : ℕ) → AllByRecursion P xs → AllByRecursion P (remove xs i)
  all_removed xs i h = All-append P (take i xs) (drop (suc i) xs) (All-take P i xs h) (All-drop P (suc i) xs h)

-- an order that stands on a list of distinct serials is told from the others by its serial
pub in-has : (x : Order) (xs : List Order) → In x xs → has x.serial xs ≡ true
in-has x [] m = elim m [ ]
in-has x (y ∷ ys) (inl e) = or_left (eqb y.serial x.serial) (has x.serial ys) (eq-eqb y.serial x.serial (ap (λ (o : Order). o.serial) (sym e)))
in-has x (y ∷ ys) (inr m) = or_right (eqb y.serial x.serial) (has x.serial ys) (in-has x ys m)

pub in-nth : (o : Order) (xs : List Order) (i : ℕ) → slice_get xs i ≡ Some o → In o xs
in-nth o [] i e = absurd (cc)
in-nth o (x ∷ xs) zero e = let q : o ≡ x = cc in inl q
in-nth o (x ∷ xs) (suc i) e = inr (in-nth o xs i e)

apart_from : (x y : Order) (ys : List Order) → distinct (y ∷ ys) ≡ true → In x ys → x.serial ≡ y.serial → ⊥
apart_from x y ys d m e =
    let lacks = not-true (has y.serial ys) (and_parts (not (has y.serial ys)) (distinct ys) d).0 in
    both_ways (has y.serial ys) lacks (ap (λ n. has n ys) (sym e) ∙ in-has x ys m)

module _ (x o : Order) where
  in-inserted : (xs : List Order) (i : ℕ) → In x (insert xs i o) → (x ≡ o) ⊎ In x xs
  in-inserted xs zero m = m
  in-inserted [] (suc i) m = m
  in-inserted (y ∷ ys) (suc i) (inl e) = inr (inl e)
  in-inserted (y ∷ ys) (suc i) (inr m) = ⊎_elim inl (λ n. inr (inr n)) (in-inserted ys i m)

  inserted-in : (xs : List Order) (i : ℕ) → (x ≡ o) ⊎ In x xs → In x (insert xs i o)
  inserted-in xs zero m = m
  inserted-in [] (suc i) m = m
  inserted-in (y ∷ ys) (suc i) (inl e) = inr (inserted-in ys i (inl e))
  inserted-in (y ∷ ys) (suc i) (inr (inl e)) = inl e
  inserted-in (y ∷ ys) (suc i) (inr (inr m)) = inr (inserted-in ys i (inr m))

  in-removed : (xs : List Order) (i : ℕ) → distinct xs ≡ true → slice_get xs i ≡ Some o → In x (remove xs i) → Other o x xs
  in-removed [] i d e m = absurd (cc)
  in-removed (y ∷ ys) zero d e m = let q : y ≡ o = cc in (inr m, λ s. apart_from x y ys d m (s ∙ ap (λ (z : Order). z.serial) (sym q)))
  in-removed (y ∷ ys) (suc i) d e (inl q) =
      (inl q, λ s. apart_from o y ys d (in-nth o ys i e) (sym s ∙ ap (λ (z : Order). z.serial) q))
  in-removed (y ∷ ys) (suc i) d e (inr m) =
      let r = in-removed ys i (and_parts (not (has y.serial ys)) (distinct ys) d).1 e m in
      (inr r.0, r.1)

  removed-in : (xs : List Order) (i : ℕ) → slice_get xs i ≡ Some o → Other o x xs → In x (remove xs i)
  removed-in [] i e m = absurd (cc)
  removed-in (y ∷ ys) zero e (inl q, n) = let p : y ≡ o = cc in absurd (n (ap (λ (z : Order). z.serial) (q ∙ p)))
  removed-in (y ∷ ys) zero e (inr m, n) = m
  removed-in (y ∷ ys) (suc i) e (inl q, n) = inl q
  removed-in (y ∷ ys) (suc i) e (inr m, n) = inr (removed-in ys i e (m, n))

-- a write is a take and a put at the same place
rewritten_as : (xs : List Order) (i : ℕ) (y : Order) → i < length xs → set xs i y ≡ insert (remove xs i) i y
rewritten_as [] i y h = absurd (omega arith)
rewritten_as (x ∷ xs) zero y h = refl
rewritten_as (x ∷ xs) (suc i) y h = ap (λ t. x ∷ t) (rewritten_as xs i y (omega arith))

written : (o : Order) (xs : List Order) (i b : ℕ) (t : Terms) → slice_get xs i ≡ Some o → rewritten xs i b t ≡ insert (remove xs i) i (renewed o b t)
written o xs i b t e =
    let s = stands xs i o e in
    rewritten_as xs i _ s.0 ∙ ap (λ y. insert (remove xs i) i (renewed y b t)) s.1

pub members : (before : Standing → Standing → Bool) → Members before
members before = record {
  put = λ o x xs. (in-inserted x o xs (place_in before o xs), inserted-in x o xs (place_in before o xs));
  take = λ o x xs i d e. (in-removed x o xs i d e, removed-in x o xs i e);
  write = λ o x xs i b t d e.
      let new = renewed o b t in
      let same = written o xs i b t e in (
        (λ h. ⊎_elim inl (λ n. inr (in-removed x o xs i d e n)) (in-inserted x new (remove xs i) i (subst (In x) same h))),
        (λ h. subst (In x) (sym same) (inserted-in x new (remove xs i) i (⊎_elim inl (λ n. inr (removed-in x o xs i e n)) h))),
      );
}

module _ (f : Order → ℕ) where
  pub sum-inserted : (xs : List Order) (i : ℕ) (o : Order) → sum_by f (insert xs i o) ≡ f o + sum_by f xs
  sum-inserted xs i o = omega (arith, sum_by-insert f xs i o)

  pub sum-removed : (o : Order) (xs : List Order) (i : ℕ) → slice_get xs i ≡ Some o → f o + sum_by f (remove xs i) ≡ sum_by f xs
  sum-removed o xs i e = let s = stands xs i o e in omega (arith, sum_by-remove f xs i nobody s.0, ap f s.1)

  pub sum-rewritten : (o : Order) (xs : List Order) (i b : ℕ) (t : Terms) → slice_get xs i ≡ Some o →
      f o + sum_by f (rewritten xs i b t) ≡ f (renewed o b t) + sum_by f xs
  sum-rewritten o xs i b t e =
      let s = stands xs i o e in
      let w = sum_by-set f xs i (renewed (get_or xs i nobody) b t) nobody s.0 in
      let u = ap f s.1 in
      let v = ap (λ y. f (renewed y b t)) s.1 in
      omega arith

pub totals : (before : Standing → Standing → Bool) → Totals before
totals before = record {
  put = λ f o xs. sum-inserted f xs (place_in before o xs) o;
  take = sum-removed;
  write = sum-rewritten;
}
