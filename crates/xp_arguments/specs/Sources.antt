-- Where a subscription file is read.
use Rattle.std.specs.Prelude.{◌≡◌, ◌≢◌, ℕ, List, codes}
use Rattle.xp_arguments.specs.declared.source.FileSource.{FileSource}
use Rattle.xp_arguments.specs.declared.source.FileSource.TheVariants.{Named, StandardInput}

-- where the file of this word is read: `-` is standard input, and each other word is the name of a file
abbrev pub IsSourceOf : List ℕ → FileSource → Type 0
IsSourceOf word StandardInput = word ≡ codes "-"
IsSourceOf word (Named name) = (word ≢ codes "-") × (name.now ≡ word)
