-- What a put, a take and a write keep of a shelf's list: distinct serials and rank order. Assumes nothing.
use Rattle.std.proofs.Common.{◌≡◌, ℕ, zero, suc, ◌<◌, ◌≤◌, Bool, true, false, cond, not, ◌&&◌, ◌||◌, eqb, List, [], ◌∷◌, length, get_or, min, Some, None, sym, refl, ap, ◌∙◌, ⊎_elim, arith}
use Rattle.std.specs.List.{slice_get, insert, remove}
use Rattle.std.proofs.lemmas.List.{append-nil, drop_all, set_past, take_all}
use Rattle.std.proofs.lemmas.Option.{get_or_from_slice_get, slice_get_cases, slice_get_within}
use Rattle.std.proofs.lemmas.Bool.{and_parts, cases_lt, eqb-false, not-true, or_parts}
use Rattle.std.proofs.lemmas.Bool.Decides.{nat_tests}
use Rattle.orders.specs.declared.order.Order.{Order}
use Rattle.orders.specs.declared.terms.Terms.{Terms}
use Rattle.shelves.specs.Laws.{KeepsDistinct, KeepsRank}
use Rattle.shelves.specs.Lists.{distinct, has, leads, nobody, place_in, placed, ranked, renewed, rewritten}
use Rattle.shelves.specs.Ranks.{Ranking, Standing, standing}

-- whether an order stands at a place
pub stands : (xs : List Order) (i : ℕ) (o : Order) → slice_get xs i ≡ Some o → (i < length xs) × (get_or xs i nobody ≡ o)
stands xs i o e = (slice_get_within xs i o e, get_or_from_slice_get xs i o nobody e)

past : (xs : List Order) (i : ℕ) → slice_get xs i ≡ None → length xs ≤ i
past xs i e = ⊎_elim (λ w. absurd (cc)) (λ w. w.0) (slice_get_cases xs i).1

-- where none stands a take and a write change nothing
pub removed-none : (xs : List Order) (i : ℕ) → slice_get xs i ≡ None → xs ≡ remove xs i
removed-none xs i e =
    let h = past xs i e in
    sym (rw (take_all i xs h, drop_all (suc i) xs (omega arith)) (append-nil xs))

pub rewritten-none : (xs : List Order) (i b : ℕ) (t : Terms) → slice_get xs i ≡ None → xs ≡ rewritten xs i b t
rewritten-none xs i b t e = sym (set_past xs i _ (past xs i e))

-- an order put behind all where fewer are there
pub inserted-min : (xs : List Order) (p : ℕ) (o : Order) → insert xs (min p (length xs)) o ≡ insert xs p o
inserted-min xs p o = ⊎_elim
    (λ (h : p < length xs). ap (λ q. insert xs q o) (omega arith))
    (λ (h : length xs ≤ p). ap (λ q. insert xs q o) (omega arith) ∙ behind xs p h)
    (cases_lt p (length xs))
  where
    behind : (ys : List Order) (q : ℕ) → length ys ≤ q → insert ys (length ys) o ≡ insert ys q o
    behind [] zero h = refl
    behind [] (suc q) h = refl
    behind (y ∷ ys) zero h = absurd (omega arith)
    behind (y ∷ ys) (suc q) h = ap (λ zs. y ∷ zs) (behind ys q (omega arith))

-- serials after a write
pub has-rewritten : (n : ℕ) (xs : List Order) (i b : ℕ) (t : Terms) → has n (rewritten xs i b t) ≡ has n xs
has-rewritten n [] i b t = refl
has-rewritten n (x ∷ xs) zero b t = refl
has-rewritten n (x ∷ xs) (suc i) b t = ap (λ t. eqb x.serial n || t) (has-rewritten n xs i b t)

pub distinct-rewritten : (xs : List Order) (i b : ℕ) (t : Terms) → distinct (rewritten xs i b t) ≡ distinct xs
distinct-rewritten [] i b t = refl
distinct-rewritten (x ∷ xs) zero b t = refl
distinct-rewritten (x ∷ xs) (suc i) b t = rw (has-rewritten x.serial xs i b t, distinct-rewritten xs i b t)

-- serials after a put
pub has-inserted : (n : ℕ) (xs : List Order) (i : ℕ) (o : Order) → has n (insert xs i o) ≡ (eqb o.serial n || has n xs)
has-inserted n xs zero o = refl
has-inserted n [] (suc i) o = refl
has-inserted n (x ∷ xs) (suc i) o = ap (λ t. eqb x.serial n || t) (has-inserted n xs i o) ∙ swap (eqb x.serial n) (eqb o.serial n) (has n xs)
  where
    swap : (a b c : Bool) → (a || (b || c)) ≡ (b || (a || c))
    swap true true c = refl
    swap true false c = refl
    swap false true c = refl
    swap false false c = refl

pub distinct-inserted : (xs : List Order) (i : ℕ) (o : Order) → has o.serial xs ≡ false → distinct xs ≡ true → distinct (insert xs i o) ≡ true
distinct-inserted xs zero o h d = rw (h, d)
distinct-inserted [] (suc i) o h d = refl
distinct-inserted (x ∷ xs) (suc i) o h d =
    let hs = or_parts (eqb x.serial o.serial) (has o.serial xs) h in
    let ds = and_parts (not (has x.serial xs)) (distinct xs) d in
    let other : eqb o.serial x.serial ≡ false = grind (arith, nat_tests) in
    let lacks : has x.serial xs ≡ false = not-true _ ds.0 in
    rw (has-inserted x.serial xs i o, other, lacks, distinct-inserted xs i o hs.1 ds.1)

-- serials after a take
pub has-removed : (n : ℕ) (xs : List Order) (i : ℕ) → has n xs ≡ false → has n (remove xs i) ≡ false
has-removed n [] zero h = refl
has-removed n [] (suc i) h = refl
has-removed n (x ∷ xs) zero h = (or_parts (eqb x.serial n) (has n xs) h).1
has-removed n (x ∷ xs) (suc i) h =
    let hs = or_parts (eqb x.serial n) (has n xs) h in
    rw (hs.0, has-removed n xs i hs.1)

pub distinct-removed : (xs : List Order) (i : ℕ) → distinct xs ≡ true → distinct (remove xs i) ≡ true
distinct-removed [] zero d = refl
distinct-removed [] (suc i) d = refl
distinct-removed (x ∷ xs) zero d = (and_parts (not (has x.serial xs)) (distinct xs) d).1
distinct-removed (x ∷ xs) (suc i) d =
    let ds = and_parts (not (has x.serial xs)) (distinct xs) d in
    rw (has-removed x.serial xs i (not-true _ ds.0), distinct-removed xs i ds.1)

-- for the code that takes and writes
pub ruleset apart_kept = (distinct-removed, distinct-rewritten)

pub keeps_distinct : (before : Standing → Standing → Bool) → KeepsDistinct before
keeps_distinct before = record {
  put = λ o xs. distinct-inserted xs (place_in before o xs) o;
  take = distinct-removed;
  write = λ xs i b t d. distinct-rewritten xs i b t ∙ d;
}

-- rank order after a take and after a write
module _ (before : Standing → Standing → Bool) where
  leads-removed : (x : Order) (xs : List Order) (i : ℕ) → leads before x xs ≡ true → leads before x (remove xs i) ≡ true
  leads-removed x [] zero h = refl
  leads-removed x [] (suc i) h = refl
  leads-removed x (y ∷ ys) zero h = (and_parts (before (standing x) (standing y)) (leads before x ys) h).1
  leads-removed x (y ∷ ys) (suc i) h =
      let hs = and_parts (before (standing x) (standing y)) (leads before x ys) h in
      rw (hs.0, leads-removed x ys i hs.1)

  pub ranked-removed : (xs : List Order) (i : ℕ) → ranked before xs ≡ true → ranked before (remove xs i) ≡ true
  ranked-removed [] zero h = refl
  ranked-removed [] (suc i) h = refl
  ranked-removed (x ∷ xs) zero h = (and_parts (leads before x xs) (ranked before xs) h).1
  ranked-removed (x ∷ xs) (suc i) h =
      let hs = and_parts (leads before x xs) (ranked before xs) h in
      rw (leads-removed x xs i hs.0, ranked-removed xs i hs.1)

  leads-rewritten : (x : Order) (xs : List Order) (i b : ℕ) (t : Terms) → leads before x (rewritten xs i b t) ≡ leads before x xs
  leads-rewritten x [] i b t = refl
  leads-rewritten x (y ∷ ys) zero b t = refl
  leads-rewritten x (y ∷ ys) (suc i) b t = ap (λ t. before (standing x) (standing y) && t) (leads-rewritten x ys i b t)

  leads-renewed : (o : Order) (b : ℕ) (t : Terms) (xs : List Order) → leads before (renewed o b t) xs ≡ leads before o xs
  leads-renewed o b t [] = refl
  leads-renewed o b t (x ∷ xs) = ap (λ t. before (standing o) (standing x) && t) (leads-renewed o b t xs)

  pub ranked-rewritten : (xs : List Order) (i b : ℕ) (t : Terms) → ranked before (rewritten xs i b t) ≡ ranked before xs
  ranked-rewritten [] i b t = refl
  ranked-rewritten (x ∷ xs) zero b t = ap (λ t. t && ranked before xs) (leads-renewed x b t xs)
  ranked-rewritten (x ∷ xs) (suc i) b t = rw (leads-rewritten x xs i b t, ranked-rewritten xs i b t)

-- rank order after a put
module _ {before : Standing → Standing → Bool} (r : Ranking before) where
  leads_through : (o y : Order) (ys : List Order) → before (standing o) (standing y) ≡ true → leads before y ys ≡ true → leads before o ys ≡ true
  leads_through o y [] e h = refl
  leads_through o y (z ∷ zs) e h =
      let hs = and_parts (before (standing y) (standing z)) (leads before y zs) h in
      rw (r.transitive (standing o) (standing y) (standing z) e hs.0, leads_through o y zs e hs.1)

  leads-inserted : (y : Order) (ys : List Order) (i : ℕ) (o : Order) → before (standing y) (standing o) ≡ true → leads before y ys ≡ true → leads before y (insert ys i o) ≡ true
  leads-inserted y ys zero o e h = rw (e, h)
  leads-inserted y [] (suc i) o e h = rw e
  leads-inserted y (z ∷ zs) (suc i) o e h =
      let hs = and_parts (before (standing y) (standing z)) (leads before y zs) h in
      rw (hs.0, leads-inserted y zs i o e hs.1)

  pub ranked-placed : (o : Order) (xs : List Order) → has o.serial xs ≡ false → ranked before xs ≡ true → ranked before (placed before o xs) ≡ true
  ranked-placed o [] n h = refl
  ranked-placed o (y ∷ ys) n h =
      let hs = and_parts (leads before y ys) (ranked before ys) h in
      let ns = or_parts (eqb y.serial o.serial) (has o.serial ys) n in
      step (eqb-false y.serial o.serial ns.0) hs.0 hs.1 (ranked-placed o ys ns.1 hs.1) (before (standing y) (standing o)) refl
    where
      step : (y.serial ≡ o.serial → ⊥) → leads before y ys ≡ true → ranked before ys ≡ true → ranked before (placed before o ys) ≡ true →
          (t : Bool) → before (standing y) (standing o) ≡ t → ranked before (insert (y ∷ ys) (cond t (suc (place_in before o ys)) 0) o) ≡ true
      step apart lead rest more true e = rw (leads-inserted y ys (place_in before o ys) o e lead, more)
      step apart lead rest more false e =
          let first = r.total (standing y) (standing o) apart e in
          rw (first, leads_through o y ys first lead, lead, rest)

  pub keeps_rank : KeepsRank before
  keeps_rank = record {
    put = ranked-placed;
    take = ranked-removed before;
    write = λ xs i b t h. ranked-rewritten before xs i b t ∙ h;
  }
