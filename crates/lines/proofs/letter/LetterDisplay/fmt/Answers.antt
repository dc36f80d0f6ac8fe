use Rattle.std.proofs.Common.{◌≡◌, ◌<◌, false, arith}
use Rattle.std.proofs.lemmas.Bool.Decides.{nat_tests}
use Rattle.std.proofs.lemmas.Fmt.{hex_byte}
use Rattle.lines.specs.Text.{printable}
use Rattle.lines.proofs.letter.LetterDisplay.fmt.Goals as goal

pub returns-in_default-clause-writes : goal.returns-in_default-clause-writes
returns-in_default-clause-writes g c =
    let b = c.args.self.now.0 in
    let byte : b < 256 = omega arith in
    let other : printable b ≡ false = grind (arith, nat_tests) in
    rw other (rw (c.in_radix.ensures, c.laid_out.ensures, hex_byte false b byte) at c.write-in_default.ensures.writes)
