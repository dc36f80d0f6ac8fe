-- What each change of the slots leaves of the two trails of a chain. Assumes nothing.
use Rattle.std.proofs.Common.{◌≡◌, ℕ, zero, suc, ◌+◌, ◌-◌, ◌<◌, ◌≤◌, cond, eqb, ltb, List, [], ◌∷◌, length, get_or, set, sym, refl, ap, ◌∙◌, ⊎_elim, add-one, arith, length-set, get_or-set_same}
use Rattle.std.specs.List.{insert, remove}
use Rattle.std.proofs.lemmas.Bool.{cases_eq, cases_lt, eq-eqb, le-ltb, lt-ltb, ne_eqb}
use Rattle.std.proofs.lemmas.Bool.Decides.{nat_tests}
use Rattle.orders.specs.declared.order.Order.{Order}
use Rattle.chain.specs.declared.link.Link.{Link}
use Rattle.chain.specs.Trails.{Inside, Parted, along, linked, next, nowhere, order_in, times, trail}
use Rattle.chain.proofs.Trails.{Once, along-renewed, along-set, at_out, follows, in_behind, in_unmet, length-trail, link_in, link_out, once_first, out_behind, out_unmet, times_at, trail-renewed, trail-set}

times-inserted : (k : ℕ) (xs : List ℕ) (p x : ℕ) → times k (insert xs p x) ≡ cond (eqb k x) 1 0 + times k xs
times-inserted k xs zero x = refl
times-inserted k [] (suc p) x = refl
times-inserted k (y ∷ ys) (suc p) x = let i = times-inserted k ys p x in omega arith

times-removed : (k : ℕ) (xs : List ℕ) (p : ℕ) → p < length xs → cond (eqb k (get_or xs p 0)) 1 0 + times k (remove xs p) ≡ times k xs
times-removed k [] p h = absurd (omega arith)
times-removed k (x ∷ xs) zero h = refl
times-removed k (x ∷ xs) (suc p) h = let i = times-removed k xs p (omega arith) in omega arith

times_self : (k : ℕ) (xs : List ℕ) → times k (k ∷ xs) ≡ 1 + times k xs
times_self k xs = let e = eq-eqb k k refl in grind arith

module _ (s : List Link) (n h f : ℕ) (parted : Parted s n h f) where
  pub once_used : Once (trail s n h)
  once_used k = let q = parted k in grind (arith, nat_tests)

  pub inside_used : Inside s n h
  inside_used p l =
      let t = times_at (trail s n h) p (omega (arith, length-trail s n h)) in
      let q = parted (get_or (trail s n h) p 0) in
      grind (arith, nat_tests)

  -- what is used is not free
  used_unmet : (p : ℕ) → p < n → times (get_or (trail s n h) p 0) (trail s (length s - n) f) ≡ 0
  used_unmet p l =
      let t = times_at (trail s n h) p (omega (arith, length-trail s n h)) in
      let q = parted (get_or (trail s n h) p 0) in
      grind (arith, nat_tests)

  -- where there is a free slot
  module _ (free : n < length s) where
    abbrev spare : List ℕ
    spare = trail s (length s - (n + 1)) (next s f)

    free_first : trail s (length s - n) f ≡ f ∷ spare
    free_first = let e : length s - n ≡ suc (length s - (n + 1)) = omega arith in ap (λ m. trail s m f) e

    parted_at : (k : ℕ) → times k (trail s n h) + times k (f ∷ spare) ≡ cond (ltb k (length s)) 1 0
    parted_at k = rw free_first at (parted k)

    pub free_inside : f < length s
    free_inside = let q = parted_at f in let t = times_self f spare in grind (arith, nat_tests)

    free_unmet : times f (trail s n h) ≡ 0
    free_unmet = let q = parted_at f in let t = times_self f spare in grind (arith, nat_tests)

    free_once : times f spare ≡ 0
    free_once = let q = parted_at f in let t = times_self f spare in grind (arith, nat_tests)

    used_spare : (p : ℕ) → p < n → times (get_or (trail s n h) p 0) spare ≡ 0
    used_spare p l =
        let u = used_unmet p l in
        let e = ap (times (get_or (trail s n h) p 0)) free_first in
        omega arith

    parted_in : (s' : List Link) (h' p : ℕ) → length s' ≡ length s → trail s' (suc n) h' ≡ insert (trail s n h) p f →
        trail s' (length s - (n + 1)) (next s f) ≡ spare → Parted s' (n + 1) h' (next s f)
    parted_in s' h' p e u v k =
        let a : times k (trail s' (n + 1) h') ≡ cond (eqb k f) 1 0 + times k (trail s n h) =
        ap (λ m. times k (trail s' m h')) (add-one n) ∙ ap (times k) u ∙ times-inserted k (trail s n h) p f in
        let b : times k (trail s' (length s' - (n + 1)) (next s f)) ≡ times k spare =
        ap (λ m. times k (trail s' (m - (n + 1)) (next s f))) e ∙ ap (times k) v in
        let q = parted_at k in
        rw (a, b, e) (omega arith)

    pub in_first : (o : Order) → Parted (set s f (linked o h)) (n + 1) f (next s f) × (along (set s f (linked o h)) (n + 1) f ≡ insert (along s n h) 0 o)
    in_first o =
        let v = linked o h in
        let g = get_or-set_same s f v nowhere free_inside in (
          parted_in (set s f v) f 0 (length-set s f v)
              (ap (λ (k : Link). f ∷ trail (set s f v) n k.next) g ∙ ap (λ t. f ∷ t) (trail-set s n h f v free_unmet))
              (trail-set s (length s - (n + 1)) (next s f) f v free_once),
          ap (λ m. along (set s f v) m f) (add-one n) ∙ ap (λ (k : Link). k.order ∷ along (set s f v) n k.next) g ∙ ap (λ t. o ∷ t) (along-set s n h f v free_unmet),
        )

    pub in_later : (o : Order) (p prev : ℕ) → p < n → prev ≡ get_or (trail s n h) p 0 →
        Parted (in_behind s f o free_inside prev) (n + 1) h (next s f) × (along (in_behind s f o free_inside prev) (n + 1) h ≡ insert (along s n h) (p + 1) o)
    in_later o p prev l e =
        let at = get_or (trail s n h) p 0 in
        let i = link_in s f o free_inside n h p l once_used free_unmet (inside_used p l) in
        let u = in_unmet s f o free_inside at (length s - (n + 1)) (next s f) free_once (used_spare p l) in
        let len : length (in_behind s f o free_inside at) ≡ length s = length-set _ _ _ ∙ length-set s at _ in
        rw e (
          parted_in (in_behind s f o free_inside at) h (suc p) len i.0 u.0,
          ap (λ m. along (in_behind s f o free_inside at) m h) (add-one n) ∙ i.1 ∙ ap (λ m. insert (along s n h) m o) (sym (add-one p)),
        )

-- where an order can be taken out
module _ (s : List Link) (m h f : ℕ) (parted : Parted s (suc m) h f) (fits : suc m ≤ length s) where
  parted_out : (s' : List Link) (h' p out : ℕ) → p < suc m → out ≡ get_or (trail s (suc m) h) p 0 → length s' ≡ length s → trail s' m h' ≡ remove (trail s (suc m) h) p →
      trail s' (suc (length s - suc m)) out ≡ out ∷ trail s (length s - suc m) f → Parted s' m h' out
  parted_out s' h' p out l is e u v k =
      let c = times-removed k (trail s (suc m) h) p (omega (arith, length-trail s (suc m) h)) in
      let d : ◌≡◌ {A = ℕ} (cond (eqb k out) 1 0) (cond (eqb k (get_or (trail s (suc m) h) p 0)) 1 0) = ap (λ z. cond (eqb k z) 1 0) is in
      let a : times k (trail s' m h') ≡ times k (remove (trail s (suc m) h) p) = ap (times k) u in
      let r : length s - m ≡ suc (length s - suc m) = omega arith in
      let b : times k (trail s' (length s' - m) out) ≡ cond (eqb k out) 1 0 + times k (trail s (length s - suc m) f) =
      ap (λ z. times k (trail s' (z - m) out)) e ∙ ap (λ z. times k (trail s' z out)) r ∙ ap (times k) v in
      let q = parted k in
      rw (a, b, e) (omega arith)

  out_first_suc : Parted (set s h (linked (order_in s h) f)) m (next s h) h
      × (along (set s h (linked (order_in s h) f)) m (next s h) ≡ remove (along s (suc m) h) 0)
  out_first_suc =
      let v = linked (order_in s h) f in
      let lone = once_first h (trail s m (next s h)) (once_used s (suc m) h f parted) in
      let g = get_or-set_same s h v nowhere (inside_used s (suc m) h f parted 0 (omega arith)) in (
        parted_out (set s h v) (next s h) 0 h (omega arith) refl (length-set s h v) (trail-set s m (next s h) h v lone)
            (ap (λ (k : Link). h ∷ trail (set s h v) (length s - suc m) k.next) g
            ∙ ap (λ t. h ∷ t) (trail-set s (length s - suc m) f h v (used_unmet s (suc m) h f parted 0 (omega arith)))),
        along-set s m (next s h) h v lone,
      )

  out_later_suc : (p prev out : ℕ) → p < m → prev ≡ get_or (trail s (suc m) h) p 0 → out ≡ get_or (trail s (suc m) h) (suc p) 0 →
      Parted (out_behind s f prev out) m h out × (along (out_behind s f prev out) m h ≡ remove (along s (suc m) h) (suc p))
  out_later_suc p prev out l is-prev is-out =
      let inside = inside_used s (suc m) h f parted in
      let at = get_or (trail s (suc m) h) p 0 in
      let to = get_or (trail s (suc m) h) (suc p) 0 in
      let i = link_out s f m h p l (once_used s (suc m) h f parted) (inside p (omega arith)) (inside (suc p) (omega arith)) in
      let s' = out_behind s f at to in
      let g = at_out s f at to (inside (suc p) (omega arith)) in
      let u = out_unmet s f at to (length s - suc m) f (used_unmet s (suc m) h f parted p (omega arith)) (used_unmet s (suc m) h f parted (suc p) (omega arith)) in
      rw (is-prev, is-out) (
        parted_out s' h (suc p) to (omega arith) refl (length-set _ _ _ ∙ length-set s at _) i.0
            (ap (λ (k : Link). to ∷ trail s' (length s - suc m) k.next) g ∙ ap (λ t. to ∷ t) u.0),
        i.1,
      )

pub out_first : (s : List Link) (n h f : ℕ) → Parted s n h f → n ≤ length s → 0 < n →
    Parted (set s h (linked (order_in s h) f)) (n - 1) (next s h) h
    × (along (set s h (linked (order_in s h) f)) (n - 1) (next s h) ≡ remove (along s n h) 0)
out_first s zero h f parted fits l = absurd (omega arith)
out_first s (suc m) h f parted fits l = let e : suc m - 1 ≡ m = omega arith in rw e (out_first_suc s m h f parted fits)

pub out_later : (s : List Link) (n h f : ℕ) → Parted s n h f → n ≤ length s → (p prev : ℕ) → p + 1 < n → prev ≡ get_or (trail s n h) p 0 →
    Parted (out_behind s f prev (next s prev)) (n - 1) h (next s prev) × (along (out_behind s f prev (next s prev)) (n - 1) h ≡ remove (along s n h) (p + 1))
out_later s zero h f parted fits p prev l is = absurd (omega arith)
out_later s (suc m) h f parted fits p prev l is =
    let e : suc m - 1 ≡ m = omega arith in
    let there = ap (next s) is ∙ sym (follows s (suc m) h p l) ∙ ap (λ z. get_or (trail s (suc m) h) z 0) (add-one p) in
    rw (e, add-one p) (out_later_suc s m h f parted fits p prev (next s prev) (omega arith) is there)

pub renewed_at : (s : List Link) (n h f : ℕ) → Parted s n h f → (p i : ℕ) (v : Link) → p < n → i ≡ get_or (trail s n h) p 0 → v.next ≡ next s i →
    Parted (set s i v) n h f × (along (set s i v) n h ≡ set (along s n h) p v.order)
renewed_at s n h f parted p i v l is same = (
  (λ k. rw (length-set s i v, trail-renewed s n h i v same, trail-renewed s (length s - n) f i v same) (parted k)),
  ap (λ z. along (set s z v) n h) is ∙ along-renewed s n h p v l (once_used s n h f parted) (inside_used s n h f parted p l) (same ∙ ap (next s) is),
)

-- slots of which each is linked to the one that lies behind it
module _ (s : List Link) (up : (i : ℕ) → i < length s → next s i ≡ i + 1) (k : ℕ) where
  ascends : (m a : ℕ) → a + m ≤ length s → (k < a → times k (trail s m a) ≡ 0) × (a ≤ k → k < a + m → times k (trail s m a) ≡ 1) × (a + m ≤ k → times k (trail s m a) ≡ 0)
  ascends zero a h = (λ _. refl, λ x y. absurd (omega arith), λ _. refl)
  ascends (suc m) a h =
      let i = ascends m (a + 1) (omega arith) in
      let e : times k (trail s m (next s a)) ≡ times k (trail s m (a + 1)) = ap (λ z. times k (trail s m z)) (up a (omega arith)) in (
        (λ q. let j = i.0 (omega arith) in grind (arith, nat_tests)),
        (λ low high. ⊎_elim
            (λ (q : k ≡ a). let j = i.0 (omega arith) in let b = eq-eqb k a q in grind arith)
            (λ (q : k ≡ a → ⊥). let j = i.1 (omega arith) (omega arith) in let b = ne_eqb k a q in grind arith) (cases_eq k a)),
        (λ q. let j = i.2 (omega arith) in grind (arith, nat_tests)),
      )

  pub all_free : times k (trail s (length s) 0) ≡ cond (ltb k (length s)) 1 0
  all_free = let i = ascends (length s) 0 (omega arith) in
      ⊎_elim (λ (q : k < length s). let j = i.1 (omega arith) (omega arith) in let b = lt-ltb k (length s) q in grind arith)
      (λ (q : length s ≤ k). let j = i.2 (omega arith) in let b = le-ltb k (length s) q in grind arith) (cases_lt k (length s))

pub parted_new : (s : List Link) → ((i : ℕ) → i < length s → next s i ≡ i + 1) → Parted s 0 0 0
parted_new s up k = let t = all_free s up k in let e : length s - 0 ≡ length s = omega arith in rw e (omega arith)
