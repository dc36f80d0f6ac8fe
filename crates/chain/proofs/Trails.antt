-- Where the links of slots lead. Assumes nothing.
use Rattle.std.proofs.Common.{◌≡◌, ℕ, zero, suc, ◌+◌, ◌-◌, ◌<◌, ◌≤◌, List, [], ◌∷◌, length, get_or, set, sym, refl, ap, ◌∙◌, add-one, arith, length-set, get_or-set_other, get_or-set_same}
use Rattle.std.specs.List.{insert, remove}
use Rattle.std.proofs.lemmas.List.{get_or-map}
use Rattle.std.proofs.lemmas.Bool.{eq-eqb}
use Rattle.orders.specs.declared.order.Order.{Order}
use Rattle.shelves.specs.Lists.{nobody}
use Rattle.chain.specs.declared.link.Link.{Link}
use Rattle.chain.specs.Trails.{Inside, along, linked, next, nowhere, order_in, times, trail}

pub length-trail : (s : List Link) (n i : ℕ) → length (trail s n i) ≡ n
length-trail s zero i = refl
length-trail s (suc n) i = ap suc (length-trail s n (next s i))

pub along_at : (s : List Link) (n i p : ℕ) → p < n → get_or (along s n i) p nobody ≡ order_in s (get_or (trail s n i) p 0)
along_at s n i p h = get_or-map (order_in s) (trail s n i) p 0 nobody (omega (arith, length-trail s n i))

-- a trail that is not over is its first slot and the rest
pub trail_first : (s : List Link) (n i : ℕ) → 0 < n → trail s n i ≡ i ∷ trail s (n - 1) (next s i)
trail_first s zero i h = absurd (omega arith)
trail_first s (suc n) i h = let e : suc n - 1 ≡ n = omega arith in ap (λ m. i ∷ trail s m (next s i)) (sym e)

follows_suc : (s : List Link) (n i p : ℕ) → suc p < n → get_or (trail s n i) (suc p) 0 ≡ next s (get_or (trail s n i) p 0)
follows_suc s zero i p h = absurd (omega arith)
follows_suc s (suc zero) i p h = absurd (omega arith)
follows_suc s (suc (suc n)) i zero h = refl
follows_suc s (suc (suc n)) i (suc p) h = follows_suc s (suc n) (next s i) p (omega arith)

-- each slot is linked to the next
pub follows : (s : List Link) (n i p : ℕ) → p + 1 < n → get_or (trail s n i) (p + 1) 0 ≡ next s (get_or (trail s n i) p 0)
follows s n i p h = rw (add-one p) (follows_suc s n i p (omega arith))

-- a walk along a trail that stays inside
module _ (s : List Link) (n i : ℕ) (inside : Inside s n i) where
  pub starts : 0 < n → (i ≡ get_or (trail s n i) 0 0) × (i < length s)
  starts h =
      let e : i ≡ get_or (trail s n i) 0 0 = ap (λ t. get_or t 0 0) (sym (trail_first s n i h)) in
      (e, omega (arith, inside 0 h, e))

  pub inside_next : 0 < n → Inside s (n - 1) (next s i)
  inside_next h p l =
      let e : get_or (trail s n i) (p + 1) 0 ≡ get_or (trail s (n - 1) (next s i)) p 0 =
      ap (λ t. get_or t (p + 1) 0) (trail_first s n i h) ∙ ap (λ k. get_or (i ∷ trail s (n - 1) (next s i)) k 0) (add-one p) in
      omega (arith, inside (p + 1) (omega arith), e)

-- what stands on a list stands there at least once
pub times_at : (xs : List ℕ) (p : ℕ) → p < length xs → 1 ≤ times (get_or xs p 0) xs
times_at [] p h = absurd (omega arith)
times_at (x ∷ xs) zero h = let e = eq-eqb x x refl in grind arith
times_at (x ∷ xs) (suc p) h = let t = times_at xs p (omega arith) in omega arith

abbrev pub Once : List ℕ → Type 0
Once xs = (k : ℕ) → times k xs ≤ 1

pub once_rest : (x : ℕ) (xs : List ℕ) → Once (x ∷ xs) → Once xs
once_rest x xs o k = let q = o k in omega arith

pub once_first : (x : ℕ) (xs : List ℕ) → Once (x ∷ xs) → times x xs ≡ 0
once_first x xs o = let q = o x in let e = eq-eqb x x refl in grind arith

-- what stands later is not the first
pub once_later : (x : ℕ) (xs : List ℕ) (p : ℕ) → Once (x ∷ xs) → p < length xs → x ≡ get_or xs p 0 → ⊥
once_later x xs p o l e =
    let t = times_at xs p l in
    let q = once_first x xs o in
    let s : times x xs ≡ times (get_or xs p 0) xs = ap (λ k. times k xs) e in
    omega arith

pub once_apart : (xs : List ℕ) (p : ℕ) → Once xs → suc p < length xs → get_or xs p 0 ≡ get_or xs (suc p) 0 → ⊥
once_apart [] p o l e = absurd (omega arith)
once_apart (x ∷ xs) zero o l e = once_later x xs 0 o (omega arith) e
once_apart (x ∷ xs) (suc p) o l e = once_apart xs p (once_rest x xs o) (omega arith) e

-- a slot that a trail does not meet may be written
pub unmet_parts : (j x : ℕ) (xs : List ℕ) → times j (x ∷ xs) ≡ 0 → (x ≡ j → ⊥) × (times j xs ≡ 0)
unmet_parts j x xs e = (λ q. let t = eq-eqb j x (sym q) in grind arith, grind arith)

pub trail-set : (s : List Link) (n i j : ℕ) (v : Link) → times j (trail s n i) ≡ 0 → trail (set s j v) n i ≡ trail s n i
trail-set s zero i j v e = refl
trail-set s (suc n) i j v e =
    let a = unmet_parts j i (trail s n (next s i)) e in
    let g = get_or-set_other s j i v nowhere a.0 in
    ap (λ (k : Link). i ∷ trail (set s j v) n k.next) g ∙ ap (λ t. i ∷ t) (trail-set s n (next s i) j v a.1)

pub along-set : (s : List Link) (n i j : ℕ) (v : Link) → times j (trail s n i) ≡ 0 → along (set s j v) n i ≡ along s n i
along-set s zero i j v e = refl
along-set s (suc n) i j v e =
    let a = unmet_parts j i (trail s n (next s i)) e in
    let g = get_or-set_other s j i v nowhere a.0 in
    ap (λ (k : Link). k.order ∷ along (set s j v) n k.next) g ∙ ap (λ t. order_in s i ∷ t) (along-set s n (next s i) j v a.1)

-- a write that leaves the link leaves every trail
next-set : (s : List Link) (j : ℕ) (v : Link) (i : ℕ) → v.next ≡ next s j → next (set s j v) i ≡ next s i
next-set [] j v i e = refl
next-set (x ∷ xs) zero v zero e = e
next-set (x ∷ xs) zero v (suc i) e = refl
next-set (x ∷ xs) (suc j) v zero e = refl
next-set (x ∷ xs) (suc j) v (suc i) e = next-set xs j v i e

pub trail-renewed : (s : List Link) (n i j : ℕ) (v : Link) → v.next ≡ next s j → trail (set s j v) n i ≡ trail s n i
trail-renewed s zero i j v e = refl
trail-renewed s (suc n) i j v e =
    ap (λ k. i ∷ trail (set s j v) n k) (next-set s j v i e) ∙ ap (λ t. i ∷ t) (trail-renewed s n (next s i) j v e)

pub along-renewed : (s : List Link) (n i p : ℕ) (v : Link) → p < n → Once (trail s n i) → get_or (trail s n i) p 0 < length s →
    v.next ≡ next s (get_or (trail s n i) p 0) → along (set s (get_or (trail s n i) p 0) v) n i ≡ set (along s n i) p v.order
along-renewed s zero i p v l o b e = absurd (omega arith)
along-renewed s (suc n) i zero v l o b e =
    let g = get_or-set_same s i v nowhere b in
    ap (λ (k : Link). k.order ∷ along (set s i v) n k.next) g
    ∙ ap (λ t. v.order ∷ t) (ap (along (set s i v) n) e ∙ along-set s n (next s i) i v (once_first i (trail s n (next s i)) o))
along-renewed s (suc n) i (suc p) v l o b e =
    let t = trail s n (next s i) in
    let j = get_or t p 0 in
    let g = get_or-set_other s j i v nowhere (once_later i t p o (omega (arith, length-trail s n (next s i)))) in
    ap (λ (k : Link). k.order ∷ along (set s j v) n k.next) g
    ∙ ap (λ q. order_in s i ∷ q) (along-renewed s n (next s i) p v (omega arith) (once_rest i t o) b e)

-- a slot f linked in behind the place p
module _ (s : List Link) (f : ℕ) (o : Order) (within : f < length s) where
  abbrev pub in_behind : ℕ → List Link
  in_behind prev = set (set s prev (linked (order_in s prev) f)) f (linked o (next s prev))

  at_new : (prev : ℕ) → get_or (in_behind prev) f nowhere ≡ linked o (next s prev)
  at_new prev = get_or-set_same (set s prev _) f _ nowhere (simp length-set within)

  at_prev : (prev : ℕ) → (prev ≡ f → ⊥) → prev < length s → get_or (in_behind prev) prev nowhere ≡ linked (order_in s prev) f
  at_prev prev ne l = get_or-set_other (set s prev _) f prev _ nowhere ne ∙ get_or-set_same s prev _ nowhere l

  at_other : (prev i : ℕ) → (i ≡ prev → ⊥) → (i ≡ f → ⊥) → get_or (in_behind prev) i nowhere ≡ get_or s i nowhere
  at_other prev i ne nf = get_or-set_other (set s prev _) f i _ nowhere nf ∙ get_or-set_other s prev i _ nowhere ne

  pub in_unmet : (prev n i : ℕ) → times f (trail s n i) ≡ 0 → times prev (trail s n i) ≡ 0 →
      (trail (in_behind prev) n i ≡ trail s n i) × (along (in_behind prev) n i ≡ along s n i)
  in_unmet prev n i a b =
      let v = linked (order_in s prev) f in
      let one = trail-set s n i prev v b in
      let q : times f (trail (set s prev v) n i) ≡ 0 = rw one a in
      (trail-set (set s prev v) n i f _ q ∙ one, along-set (set s prev v) n i f _ q ∙ along-set s n i prev v b)

  pub link_in : (n i p : ℕ) → p < n → Once (trail s n i) → times f (trail s n i) ≡ 0 → get_or (trail s n i) p 0 < length s →
      (trail (in_behind (get_or (trail s n i) p 0)) (suc n) i ≡ insert (trail s n i) (suc p) f)
      × (along (in_behind (get_or (trail s n i) p 0)) (suc n) i ≡ insert (along s n i) (suc p) o)
  link_in zero i p l w a b = absurd (omega arith)
  link_in (suc n) i zero l w a b =
      let u = unmet_parts f i (trail s n (next s i)) a in
      let r = at_prev i u.0 b in
      let q = at_new i in
      let v = in_unmet i n (next s i) u.1 (once_first i (trail s n (next s i)) w) in
      let s' = in_behind i in (
        ap (λ (k : Link). i ∷ k.next ∷ trail s' n (next s' k.next)) r ∙ ap (λ (k : Link). i ∷ f ∷ trail s' n k.next) q ∙ ap (λ t. i ∷ f ∷ t) v.0,
        ap (λ (k : Link). k.order ∷ order_in s' k.next ∷ along s' n (next s' k.next)) r
            ∙ ap (λ (k : Link). order_in s i ∷ k.order ∷ along s' n k.next) q ∙ ap (λ t. order_in s i ∷ o ∷ t) v.1,
      )
  link_in (suc n) i (suc p) l w a b =
      let t = trail s n (next s i) in
      let u = unmet_parts f i t a in
      let r = at_other (get_or t p 0) i (once_later i t p w (omega (arith, length-trail s n (next s i)))) u.0 in
      let v = link_in n (next s i) p (omega arith) (once_rest i t w) u.1 b in
      let s' = in_behind (get_or t p 0) in (
        ap (λ (k : Link). i ∷ trail s' (suc n) k.next) r ∙ ap (λ q. i ∷ q) v.0,
        ap (λ (k : Link). k.order ∷ along s' (suc n) k.next) r ∙ ap (λ q. order_in s i ∷ q) v.1,
      )

-- the slot behind the place p linked out, and linked to f
module _ (s : List Link) (f : ℕ) where
  abbrev pub out_behind : ℕ → ℕ → List Link
  out_behind prev out = set (set s prev (linked (order_in s prev) (next s out))) out (linked (order_in s out) f)

  pub at_out : (prev out : ℕ) → out < length s → get_or (out_behind prev out) out nowhere ≡ linked (order_in s out) f
  at_out prev out l = get_or-set_same (set s prev _) out _ nowhere (simp length-set l)

  before_out : (prev out : ℕ) → (prev ≡ out → ⊥) → prev < length s → get_or (out_behind prev out) prev nowhere ≡ linked (order_in s prev) (next s out)
  before_out prev out ne l = get_or-set_other (set s prev _) out prev _ nowhere ne ∙ get_or-set_same s prev _ nowhere l

  past_out : (prev out i : ℕ) → (i ≡ prev → ⊥) → (i ≡ out → ⊥) → get_or (out_behind prev out) i nowhere ≡ get_or s i nowhere
  past_out prev out i np no' = get_or-set_other (set s prev _) out i _ nowhere no' ∙ get_or-set_other s prev i _ nowhere np

  pub out_unmet : (prev out n i : ℕ) → times prev (trail s n i) ≡ 0 → times out (trail s n i) ≡ 0 →
      (trail (out_behind prev out) n i ≡ trail s n i) × (along (out_behind prev out) n i ≡ along s n i)
  out_unmet prev out n i a b =
      let v = linked (order_in s prev) (next s out) in
      let one = trail-set s n i prev v a in
      let q : times out (trail (set s prev v) n i) ≡ 0 = rw one b in
      (trail-set (set s prev v) n i out _ q ∙ one, along-set (set s prev v) n i out _ q ∙ along-set s n i prev v a)

  pub link_out : (n i p : ℕ) → p < n → Once (trail s (suc n) i) → get_or (trail s (suc n) i) p 0 < length s → get_or (trail s (suc n) i) (suc p) 0 < length s →
      (trail (out_behind (get_or (trail s (suc n) i) p 0) (get_or (trail s (suc n) i) (suc p) 0)) n i ≡ remove (trail s (suc n) i) (suc p))
      × (along (out_behind (get_or (trail s (suc n) i) p 0) (get_or (trail s (suc n) i) (suc p) 0)) n i ≡ remove (along s (suc n) i) (suc p))
  link_out zero i p l w a b = absurd (omega arith)
  link_out (suc n) i zero l w a b =
      let out = next s i in
      let t = trail s n (next s out) in
      let ne = once_later i (out ∷ t) 0 w (omega arith) in
      let u = unmet_parts i out t (once_first i (out ∷ t) w) in
      let r = before_out i out ne a in
      let v = out_unmet i out n (next s out) u.1 (once_first out t (once_rest i (out ∷ t) w)) in
      let s' = out_behind i out in (
        ap (λ (k : Link). i ∷ trail s' n k.next) r ∙ ap (λ q. i ∷ q) v.0,
        ap (λ (k : Link). k.order ∷ along s' n k.next) r ∙ ap (λ q. order_in s i ∷ q) v.1,
      )
  link_out (suc n) i (suc p) l w a b =
      let t = trail s (suc n) (next s i) in
      let long = length-trail s (suc n) (next s i) in
      let r = past_out (get_or t p 0) (get_or t (suc p) 0) i (once_later i t p w (omega arith)) (once_later i t (suc p) w (omega arith)) in
      let v = link_out n (next s i) p (omega arith) (once_rest i t w) a b in
      let s' = out_behind (get_or t p 0) (get_or t (suc p) 0) in (
        ap (λ (k : Link). i ∷ trail s' n k.next) r ∙ ap (λ q. i ∷ q) v.0,
        ap (λ (k : Link). k.order ∷ along s' n k.next) r ∙ ap (λ q. order_in s i ∷ q) v.1,
      )
