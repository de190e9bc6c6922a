-- "Order", and the order of the tests of one line.
use Rattle.std.specs.Prelude.{ℕ, List, [], ◌∷◌, Bool, true, false, ◌||◌, cond, eqb, None, Option, Some}
use Rattle.iff.specs.Bytes.{hash, percent, ampersand, asterisk, plus, dash, dot, semicolon, less, greater, question, at}
use Rattle.iff.specs.Lists.{has}
use Rattle.iff.specs.Refusals.{first_test, unless, after, Test}
use Rattle.iff.specs.Columns.{on}
use Rattle.iff.specs.Tables.{Row, letterless}
use Rattle.iff.specs.declared.GroupFile.{GroupFile}
use Rattle.iff.specs.declared.GroupFile.TheVariants.{Timezone, Footnote, Changes, Xfootnote, Xchanges}
use Rattle.iff.specs.declared.File.{File}
use Rattle.iff.specs.declared.File.TheVariants.{Delivery, Rows, Groups, Timetbls}
use Rattle.iff.specs.declared.Reason.TheVariants.{Layout, Value, FirstLine, Order, Duplicate, Reference}
use Rattle.iff.specs.declared.GroupStand.{GroupStand}
use Rattle.iff.specs.declared.GroupStand.TheVariants.{Opening, Opened, Going}
use Rattle.iff.specs.declared.Stand.{Stand}
use Rattle.iff.specs.declared.Stand.TheVariants.{Start, Hash, Percent, Dash, Ampersand, Asterisk, Stop, Between, Last, LastPlatform}

-- THE TESTS OF ONE LINE: "first byte (4, then 7), rest of layout (4), then 6, 5, 8, 9"
pub record LineTests : Type 0 where
  pub known : Bool
  pub here : Bool
  pub laid_out : Bool
  pub as_first : Bool
  pub valued : Bool
  pub fresh : Bool
  pub met : Bool

unfoldable pub line_test : LineTests → Test
line_test t =
    first_test
    (unless t.known Layout
    ∷ unless t.here Order
    ∷ unless t.laid_out Layout
    ∷ unless t.as_first FirstLine
    ∷ unless t.valued Value
    ∷ unless t.fresh Duplicate
    ∷ unless t.met Reference
    ∷ [])

-- a line where no record may stand: 4 where its first byte is not known, else 7
abbrev pub stray_tests : Bool → LineTests
stray_tests known = record { known = known; here = false; laid_out = true; as_first = true; valued = true; fresh = true; met = true }

-- "Known first bytes are `@` and the file's own letters." The files of rows have none.
abbrev pub group_letters : GroupFile → List ℕ
group_letters Timezone = at ∷ hash ∷ plus ∷ dash ∷ []
group_letters Footnote = at ∷ hash ∷ 48 ∷ 49 ∷ []
group_letters Changes = at ∷ hash ∷ dash ∷ []
group_letters Xfootnote = at ∷ hash ∷ 48 ∷ 49 ∷ []
group_letters Xchanges = at ∷ hash ∷ dash ∷ []

abbrev pub block_letters : List ℕ
block_letters = at ∷ hash ∷ percent ∷ dash ∷ ampersand ∷ asterisk ∷ greater ∷ dot ∷ plus ∷ semicolon ∷ less ∷ question ∷ []

abbrev pub known_in_group : GroupFile → ℕ → Bool
known_in_group f x = has x (group_letters f)

abbrev pub known_in_block : ℕ → Bool
known_in_block x = has x block_letters

-- a row's tag: the record's letter; a vector and a row of a file of rows have none
abbrev pub vector_tag : ℕ → ℕ
vector_tag x = on x hash hash (on x at at letterless)

abbrev pub group_tag : GroupFile → ℕ → ℕ
group_tag Timezone x = x
group_tag Footnote x = vector_tag x
group_tag Changes x = x
group_tag Xfootnote x = vector_tag x
group_tag Xchanges x = x

abbrev pub tag_of : File → ℕ → ℕ
tag_of Delivery x = letterless
tag_of (Rows f) x = letterless
tag_of (Groups f) x = group_tag f x
tag_of Timetbls x = x

-- "TIMEZONE: `#`, one or more periods. Vectors: `#`, one vector. CHANGES and XCHANGES: `#`, rows, perhaps none."
abbrev pub is_period : ℕ → Bool
is_period t = eqb t plus || eqb t dash

abbrev pub one_vector : GroupStand → ℕ → Bool
one_vector Opening t = false
one_vector Opened t = eqb t letterless
one_vector Going t = false

abbrev pub in_group : GroupFile → GroupStand → ℕ → Bool
in_group Timezone s t = is_period t
in_group Footnote s t = one_vector s t
in_group Changes s t = eqb t dash
in_group Xfootnote s t = one_vector s t
in_group Xchanges s t = eqb t dash

-- where a group stands, a row with this tag may come; and where the group stands after it
unfoldable pub may_follow : GroupFile → GroupStand → ℕ → Bool
may_follow f Opening t = eqb t hash
may_follow f Opened t = in_group f Opened t
may_follow f Going t = in_group f Going t

abbrev pub group_moves : GroupStand → GroupStand
group_moves Opening = Opened
group_moves Opened = Going
group_moves Going = Going

-- where a group stands after some rows
unfoldable pub group_stand : List Row → GroupStand
group_stand rs = after (λ s r. group_moves s) Opening rs

-- a group may end right after its `#`; else it needs a line more
abbrev pub ends_opened : GroupFile → Bool
ends_opened Timezone = false
ends_opened Footnote = false
ends_opened Changes = true
ends_opened Xfootnote = false
ends_opened Xchanges = true

-- a group may end here; where none was opened, nothing is missing
abbrev pub may_end : GroupFile → GroupStand → Bool
may_end f Opening = true
may_end f Opened = ends_opened f
may_end f Going = true

-- "TIMETBLS block: `#`; one or more `%`; one or more `-`; one or more `&`; any `*`; `>`; any of `.` `+` `;`; `<`.
-- A stop record `>` `.` `+` `<` may be followed by one platform record, after which the stops go on."
abbrev pub to : ℕ → ℕ → Stand → Option Stand → Option Stand
to x k s n = cond (eqb x k) (Some s) n

unfoldable pub goes : Stand → ℕ → Option Stand
goes Start x = to x hash Hash None
goes Hash x = to x percent Percent None
goes Percent x = to x percent Percent (to x dash Dash None)
goes Dash x = to x dash Dash (to x ampersand Ampersand None)
goes Ampersand x = to x ampersand Ampersand (to x asterisk Asterisk (to x greater Stop None))
goes Asterisk x = to x asterisk Asterisk (to x greater Stop None)
goes Stop x = to x dot Stop (to x plus Stop (to x semicolon Between (to x question Between (to x less Last None))))
goes Between x = to x dot Stop (to x plus Stop (to x semicolon Between (to x less Last None)))
goes Last x = to x question LastPlatform None
goes LastPlatform x = None

abbrev pub is_goes : Option Stand → Bool
is_goes (Some s) = true
is_goes None = false

-- where a line that is let through leads; one that is not leads nowhere else
abbrev pub stand_after : Stand → Option Stand → Stand
stand_after p (Some s) = s
stand_after p None = p

-- a block may end here
abbrev pub finished : Stand → Bool
finished Start = false
finished Hash = false
finished Percent = false
finished Dash = false
finished Ampersand = false
finished Asterisk = false
finished Stop = false
finished Between = false
finished Last = true
finished LastPlatform = true

-- "Stops `>` `.` `+` `<` are numbered from 1 to n; a `;` has no number."
abbrev pub is_stop : ℕ → Bool
is_stop x = has x (greater ∷ dot ∷ plus ∷ less ∷ [])
