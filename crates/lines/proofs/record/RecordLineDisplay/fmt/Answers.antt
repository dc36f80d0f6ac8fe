use Rattle.std.proofs.Common.{◌≡◌, ℕ, List, sym, refl, ap, ◌∙◌, append_assoc}
use Rattle.std.proofs.Output.{has_written_of_eq}
use Rattle.orders.specs.declared.entry.Entry.{Entry}
use Rattle.wire.specs.Fields.{entry_of}
use Rattle.wire.specs.Stream.{Item, entry, item_of}
use Rattle.lines.specs.Text.{entry_text, item_text}
use Rattle.lines.proofs.record.RecordLineDisplay.fmt.Goals as goal

-- the line of an entry's bytes is the line of its fields
of_fields : (e : Entry) (l : List ℕ) (i : Item) → e ≡ entry_of l → i ≡ entry l → entry_text e ≡ item_text i
of_fields e l i fields is = ap entry_text fields ∙ ap item_text (sym is)

pub returns-in-Enter-clause-writes : goal.returns-in-Enter-clause-writes
returns-in-Enter-clause-writes g c =
    rw (← of_fields _ _ _ c.entry-member.ensures (ap item_of c.in-Enter.is))
    (λ plain ok. has_written_of_eq _ _ _ _ _ (simp append_assoc refl) (c.write.ensures.writes plain ok))
