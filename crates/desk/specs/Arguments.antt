-- What the words after the desk's name ask for. Assumes nothing.
--     Asked              a request, a word that the desk does not know, or too many words
--     answered r         what an answer of the code says
--     asked_by word      what one word asks for
--     asked words        what all the words ask for
use Rattle.std.specs.Prelude.{ℕ, cond, List, [], ◌∷◌, Ok, Err, codes, Result}
use Rattle.std.specs.Str.{bytes_eq}
use Rattle.desk.specs.declared.arguments.BadArguments.{BadArguments}
use Rattle.desk.specs.declared.arguments.BadArguments.TheVariants.{Unknown, TooMany}
use Rattle.desk.specs.declared.arguments.Request.{Request}
use Rattle.desk.specs.declared.arguments.Request.TheVariants.{Help, Listing}

pub data Asked : Type 0 where
  for : Request → Asked
  unknown : List ℕ → Asked
  too_many : Asked

abbrev pub answered : Result Request BadArguments → Asked
answered (Ok request) = for request
answered (Err (Unknown word)) = unknown word.now
answered (Err TooMany) = too_many

abbrev pub asked_by : List ℕ → Asked
asked_by word = cond (bytes_eq word (codes "-")) (for Listing) (cond (bytes_eq word (codes "--help")) (for Help) (unknown word))

abbrev pub asked : List (List ℕ) → Asked
asked [] = for Listing
asked (word ∷ rest) = elim rest [ [] ↦ asked_by word | ◌∷◌ other more ↦ too_many ]
