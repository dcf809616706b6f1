-- The messages of lines as a diagram: the exchange in the middle, a line at its left, and others at its right.
use Rattle.std.specs.Prelude.{ℕ, ◌-◌, ◌^◌, chars, codes, false, suc, zero, List, [], ◌∷◌, ◌++◌}
use Rattle.std.specs.Fmt.{decimal, format_spec, padded_integral}
use Rattle.unicode_width.specs.Width.{str_width}
use Rattle.xp_ladder.specs.declared.rung.Rung.{Rung}
use Rattle.xp_ladder.specs.declared.side.Side.{Side}
use Rattle.xp_ladder.specs.declared.side.Side.TheVariants.{Left, Right}
use Rattle.xp_words.specs.declared.direction.Direction.{Direction}
use Rattle.xp_words.specs.declared.direction.Direction.TheVariants.{FromDte, FromDce}

-- the characters │ ─ ► ◄
abbrev pub pole : List ℕ
pole = 0xe2 ∷ 0x94 ∷ 0x82 ∷ []

abbrev pub dash : List ℕ
dash = 0xe2 ∷ 0x94 ∷ 0x80 ∷ []

abbrev pub head_right : List ℕ
head_right = 0xe2 ∷ 0x96 ∷ 0xba ∷ []

abbrev pub head_left : List ℕ
head_left = 0xe2 ∷ 0x97 ∷ 0x84 ∷ []

-- so many copies of a character
unfoldable pub repeated : List ℕ → ℕ → List ℕ
repeated character zero = []
repeated character (suc count) = repeated character count ++ character

abbrev pub spaces : ℕ → List ℕ
spaces count = repeated (codes " ") count

-- the columns of a text in a terminal
unfoldable pub width : List ℕ → ℕ
width text = str_width false (chars text)

-- an arrow across the 33 columns between two poles, with words on it; wider words make it longer
abbrev pub arrow_right : List ℕ → List ℕ
arrow_right words = dash ++ codes " " ++ words ++ codes " " ++ repeated dash (29 - width words) ++ head_right

abbrev pub arrow_left : List ℕ → List ℕ
arrow_left words = head_left ++ codes " " ++ words ++ codes " " ++ repeated dash (29 - width words) ++ dash

-- what a line sends points to the exchange
abbrev pub arrow : Side → Direction → List ℕ → List ℕ
arrow Left FromDte words = arrow_right words
arrow Left FromDce words = arrow_left words
arrow Right FromDte words = arrow_left words
arrow Right FromDce words = arrow_right words

abbrev pub halves : Side → List ℕ → List ℕ
halves Left drawn = drawn ++ pole ++ spaces 33
halves Right drawn = spaces 33 ++ pole ++ drawn

-- the moment in ten columns, then the three poles with what is between them
abbrev pub row_text : ℕ → Side → Direction → List ℕ → List ℕ
row_text moment side direction words =
    padded_integral (format_spec 32 3 0 10 (2 ^ 64 - 1)) false [] (decimal moment)
    ++ codes " " ++ pole ++ halves side (arrow side direction words) ++ pole

abbrev pub rung_text : Rung → List ℕ
rung_text rung = row_text rung.moment rung.side rung.direction rung.words.now

-- the names of the lines above their poles
abbrev pub heading_text : List ℕ → List ℕ → List ℕ
heading_text left right =
    spaces 11 ++ left ++ spaces (34 - width left) ++ codes "exchange" ++ spaces (27 - width right) ++ right
