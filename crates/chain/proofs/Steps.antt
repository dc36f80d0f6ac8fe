-- What each step leaves of a chain's slots. Assumes nothing.
use Rattle.std.proofs.Common.{◌≡◌, ℕ, ◌+◌, ◌-◌, ◌<◌, ◌≤◌, List, length, set, sym, refl, ap, ◌∙◌, arith, length-set}
use Rattle.std.specs.List.{insert, remove}
use Rattle.orders.specs.declared.order.Order.{Order}
use Rattle.orders.specs.declared.terms.Terms.{Terms}
use Rattle.shelves.specs.Lists.{renewed, rewritten}
use Rattle.chain.specs.declared.link.Link.{Link}
use Rattle.chain.specs.declared.links.Links.{Links}
use Rattle.chain.specs.Chains.{Sound, held, linked_behind, linked_first, renewed_slot, room, slot, unlinked_behind, unlinked_first}
use Rattle.chain.specs.Trails.{Parted, along, linked, next, order_in}
use Rattle.chain.proofs.Moves.{in_first, in_later, out_first, out_later, renewed_at}
use Rattle.chain.proofs.Trails.{along_at}

-- u is what a change leaves of t where it leaves the orders xs
pub record Left (t u : Links) (xs : List Order) : Type 0 where
  pub room_same : room u ≡ room t
  pub fits : u.used ≤ room u
  pub sound : Sound u
  pub orders : held u ≡ xs

module _ (t u : Links) where
  left : (s : List Link) (n h f : ℕ) (xs : List Order) → u.at.now ≡ s → u.used ≡ n → u.head ≡ h → u.free ≡ f →
      length s ≡ room t → n ≤ room t → Parted s n h f × (along s n h ≡ xs) → Left t u xs
  left s n h f xs a b c d long few now =
      let l : room u ≡ room t = ap length a ∙ long in
      record {
        room_same = l;
        fits = omega arith;
        sound = rw (a, b, c, d) now.0;
        orders = rw (a, b, c) now.1;
      }

  module _ (sound : Sound t) where
    pub after_link_first : (o : Order) → t.used < room t →
        u.at.now ≡ linked_first t o → u.used ≡ t.used + 1 → u.head ≡ t.free → u.free ≡ next t.at.now t.free → Left t u (insert (held t) 0 o)
    after_link_first o free a b c d =
        left _ _ _ _ _ a b c d (length-set t.at.now t.free _) (omega arith) (in_first t.at.now t.used t.head t.free sound free o)

    pub after_link_behind : (o : Order) (p prev : ℕ) → t.used < room t → p + 1 ≤ t.used → prev ≡ slot t p →
        u.at.now ≡ linked_behind t prev o → u.used ≡ t.used + 1 → u.head ≡ t.head → u.free ≡ next t.at.now t.free → Left t u (insert (held t) (p + 1) o)
    after_link_behind o p prev free l is a b c d =
        left _ _ _ _ _ a b c d (length-set _ _ _ ∙ length-set t.at.now prev _) (omega arith)
        (in_later t.at.now t.used t.head t.free sound free o p prev (omega arith) is)

    pub after_unlink_first : (p : ℕ) → p ≡ 0 → t.used ≤ room t → p < t.used →
        u.at.now ≡ unlinked_first t → u.used ≡ t.used - 1 → u.head ≡ next t.at.now t.head → u.free ≡ t.head → Left t u (remove (held t) p)
    after_unlink_first p e fits l a b c d =
        let r = out_first t.at.now t.used t.head t.free sound fits (omega arith) in
        left _ _ _ _ _ a b c d (length-set t.at.now t.head _) (omega arith) (r.0, r.1 ∙ ap (λ z. remove (held t) z) (sym e))

    pub after_unlink_behind : (p prev : ℕ) → t.used ≤ room t → p + 1 < t.used → prev ≡ slot t p →
        u.at.now ≡ unlinked_behind t prev → u.used ≡ t.used - 1 → u.head ≡ t.head → u.free ≡ next t.at.now prev → Left t u (remove (held t) (p + 1))
    after_unlink_behind p prev fits l is a b c d =
        left _ _ _ _ _ a b c d (length-set _ _ _ ∙ length-set t.at.now prev _) (omega arith) (out_later t.at.now t.used t.head t.free sound fits p prev l is)

    pub after_renew : (p i b : ℕ) (x : Terms) → t.used ≤ room t → p < t.used → i ≡ slot t p →
        u.at.now ≡ renewed_slot t i b x → u.used ≡ t.used → u.head ≡ t.head → u.free ≡ t.free → Left t u (rewritten (held t) p b x)
    after_renew p i b x fits l is e f c d =
        let s = t.at.now in
        let there = along_at s t.used t.head p l ∙ ap (order_in s) (sym is) in
        let r = renewed_at s t.used t.head t.free sound p i (linked (renewed (order_in s i) b x) (next s i)) l is refl in
        left _ _ _ _ _ e f c d (length-set s i _) fits (r.0, r.1 ∙ ap (λ o. set (held t) p (renewed o b x)) (sym there))
