-- "Values": numbers and codes of fields, and the words that a row keeps of them.
use Rattle.std.specs.Prelude.{ℕ, zero, suc, ◌+◌, ◌-◌, ◌*◌, ◌/◌, ◌%◌, ◌^◌, List, [], ◌∷◌, ◌++◌, Bool, true, ◌&&◌, ◌||◌, not, cond, length, get_or, drop, replicate, eqb, ltb, leb}
use Rattle.iff.specs.Bytes.{blank, asterisk, allowed, digit}
use Rattle.iff.specs.Lists.{all, same}
use Rattle.iff.specs.Columns.{Class, Letter, Number, StopNumber, NumberOrAny, Code, Marks, Text, Unread, Field, columns, picture, figures}

-- the bytes of s, each less `off`, as digits in base `base`, after what stands before them
unfoldable pub value : ℕ → ℕ → ℕ → List ℕ → ℕ
value base off acc [] = acc
value base off acc (b ∷ s) = value base off (acc * base + (b - off)) s

-- a number's digits, and a code's bytes, first byte highest: "compared over the whole field"
abbrev pub number_of : List ℕ → ℕ
number_of s = value 10 48 0 s

abbrev pub code_of : List ℕ → ℕ
code_of s = value 256 0 0 s

-- "Codes are not all blank."
abbrev pub all_blank : List ℕ → Bool
all_blank s = all (eqb blank) s

-- "In XCHANGES a company or mode may be `*` followed by blanks."
unfoldable pub wildcard : ℕ → List ℕ
wildcard width = asterisk ∷ replicate (width - 1) blank

abbrev pub is_wildcard : List ℕ → Bool
is_wildcard s = same s (wildcard (length s))

-- a field that is right: a code is not all blank; a company is digits or the wildcard; digits of the other fields are for `figures`
unfoldable pub field_right : Class → List ℕ → Bool
field_right Letter s = true
field_right Number s = true
field_right StopNumber s = true
field_right NumberOrAny s = all digit s || is_wildcard s
field_right Code s = not (all_blank s)
field_right Marks s = true
field_right Text s = true
field_right Unread s = true

-- Digits and codes of a record, refusal 5
unfoldable pub readable : List ℕ → List Field → Bool
readable body fs = figures body (picture fs) && all (λ f. field_right f.class (columns body f)) fs

-- "000 for stop 1 and 999 for stop n"
abbrev pub stop_of : ℕ → ℕ → ℕ
stop_of n k = cond (eqb k 0) 1 (cond (eqb k 999) n k)

-- a company's number, or the wildcard's own code, which no number of three digits is
unfoldable pub company_or_any : List ℕ → ℕ
company_or_any s = cond (is_wildcard s) (code_of s) (number_of s)

-- a vector's marks, day 0 lowest, 64 to a word
unfoldable pub bits : ℕ → List ℕ → ℕ
bits zero s = 0
bits (suc n) [] = 0
bits (suc n) (b ∷ s) = (b - 48) + 2 * bits n s

unfoldable pub vector_words : ℕ → List ℕ → List ℕ
vector_words zero s = []
vector_words (suc n) s = bits 64 s ∷ vector_words n (drop 64 s)

-- 800 days are 13 words
abbrev pub vector_width : ℕ
vector_width = 13

-- the words that a field leaves in its row, in a block of n stops
unfoldable pub field_words : ℕ → Class → List ℕ → List ℕ
field_words n Letter s = []
field_words n Number s = number_of s ∷ []
field_words n StopNumber s = stop_of n (number_of s) ∷ []
field_words n NumberOrAny s = company_or_any s ∷ []
field_words n Code s = code_of s ∷ []
field_words n Marks s = vector_words vector_width s
field_words n Text s = []
field_words n Unread s = []

-- "Kept: all fields but free text and unread columns"
unfoldable pub words : ℕ → List ℕ → List Field → List ℕ
words n body [] = []
words n body (f ∷ fs) = field_words n f.class (columns body f) ++ words n body fs

-- THE SAME OF A KEPT WORD: what some right field of that class and width leaves
-- a code's bytes, the last first
unfoldable pub code_bytes : ℕ → ℕ → List ℕ
code_bytes zero w = []
code_bytes (suc n) w = w % 256 ∷ code_bytes n (w / 256)

unfoldable pub code_right : ℕ → ℕ → Bool
code_right width w = ltb w (256 ^ width) && (all allowed (code_bytes width w) && not (all_blank (code_bytes width w)))

abbrev pub word_at : List ℕ → ℕ → ℕ
word_at r k = get_or r k 0

-- marks beyond the span are zero: word by word, `days` of them left
unfoldable pub vector_right : ℕ → ℕ → List ℕ → Bool
vector_right zero days r = true
vector_right (suc n) days r = ltb (word_at r 0) (2 ^ cond (leb 64 days) 64 days) && vector_right n (days - 64) (drop 1 r)

-- the first words of what is left of a row fit a field
unfoldable pub word_right : Class → ℕ → List ℕ → Bool
word_right Letter width r = true
word_right Number width r = ltb (word_at r 0) (10 ^ width)
word_right StopNumber width r = true
word_right NumberOrAny width r = ltb (word_at r 0) (10 ^ width) || eqb (word_at r 0) (code_of (wildcard width))
word_right Code width r = code_right width (word_at r 0)
word_right Marks width r = vector_right vector_width width r
word_right Text width r = true
word_right Unread width r = true

-- how many words a field leaves
abbrev pub words_of : Class → ℕ
words_of Letter = 0
words_of Number = 1
words_of StopNumber = 1
words_of NumberOrAny = 1
words_of Code = 1
words_of Marks = vector_width
words_of Text = 0
words_of Unread = 0

unfoldable pub words_right : List ℕ → List Field → Bool
words_right r [] = true
words_right r (f ∷ fs) = word_right f.class f.width r && words_right (drop (words_of f.class) r) fs

abbrev pub word_count : List Field → ℕ
word_count [] = 0
word_count (f ∷ fs) = words_of f.class + word_count fs
