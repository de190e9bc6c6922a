-- One small delivery with every record kind and every optional file, written as lines, and ways to change it.
use Rattle.std.specs.Prelude.{ℕ, ◌+◌, ◌-◌, List, [], ◌∷◌, ◌++◌, cond, length, take, drop, eqb}
use Prim.Native.String.{String}
use Rattle.iff.specs.Files.{PerFile, of, per_file, file_number}
use Rattle.iff.specs.declared.File.{File}
use Rattle.small_delivery.specs.Text.{written}

-- the first line of each file: company 100, ten days of 1615, whose days fall as those of 2015 and need few years counted
abbrev pub header : String
header = "@100,01011615,10011615,0001,Cases                         "

-- the lines of its three services
abbrev pub block7 : List String
block7 =
    "#00000007"
    ∷ "%100,00012,NACHT  ,000,999,Night boat                    "
    ∷ "-00001,000,999"
    ∷ "&BOAT,000,999"
    ∷ "*FIET,001,002,00001"
    ∷ ">AAA    ,0330"
    ∷ "?1    ,     ,00001"
    ∷ ";BBB    "
    ∷ "+CCC    ,2430,2510"
    ∷ "<AAA    ,2600"
    ∷ []

abbrev pub block8 : List String
block8 =
    "#00000008"
    ∷ "%200,00013,       ,001,003,                              "
    ∷ "-00002,001,002"
    ∷ "-00001,002,003"
    ∷ "&IC  ,001,003"
    ∷ ">CCC    ,0030"
    ∷ ".BBB    ,0200"
    ∷ "<AAA    ,0301"
    ∷ []

abbrev pub block9 : List String
block9 =
    "#00000009"
    ∷ "%200,00014,       ,001,003,                              "
    ∷ "%100,00014,       ,003,004,                              "
    ∷ "-00001,000,999"
    ∷ "&IC  ,001,002"
    ∷ "&BOAT,002,999"
    ∷ ">BBB    ,0100"
    ∷ "+CCC    ,9999,0230"
    ∷ "+AAA    ,0300,9999"
    ∷ "<BBB    ,0400"
    ∷ "?     ,2    ,00002"
    ∷ []

-- zones' periods reach four days past the last day, or further
abbrev pub small : PerFile (List String)
small =
    record {
      delivery =
          header
          ∷ [];
      company =
          header
          ∷ "100,FERRY     ,Ferry Lines                   ,0400"
          ∷ "200,NIGHT     ,Night Trains                  ,0000"
          ∷ [];
      country =
          header
          ∷ "NL  ,1,Netherlands                   "
          ∷ [];
      trnsmode =
          header
          ∷ "IC  ,Intercity                     "
          ∷ "BOAT,Ferry                         "
          ∷ [];
      timezone =
          header
          ∷ "#0000"
          ∷ "+01,01011615,05011615"
          ∷ "+02,06011615,31121615"
          ∷ "#0001"
          ∷ "-01,01011615,14011615"
          ∷ [];
      stations =
          header
          ∷ "1,AAA    ,05,  ,NL  ,0000,  ,000000,000000,Pier                          "
          ∷ "0,BBB    ,10,  ,NL  ,0001,  ,000000,000000,Quay                          "
          ∷ "1,CCC    ,99,  ,NL  ,0000,  ,000000,000000,Terminal                      "
          ∷ [];
      footnote =
          header
          ∷ "#00001"
          ∷ "1111111111"
          ∷ "#00002"
          ∷ "1010101010"
          ∷ [];
      timetbls = header ∷ (block7 ++ (block8 ++ block9));
      changes =
          header
          ∷ "#CCC    "
          ∷ "-00000007,00000008,01"
          ∷ "-00000007,00000009,00"
          ∷ "#BBB    "
          ∷ "-00000008,00000009,01"
          ∷ "-00000009,00000008,02"
          ∷ "#AAA    "
          ∷ [];
      xfootnote =
          header
          ∷ "#00001"
          ∷ "1111100000"
          ∷ "#00002"
          ∷ "0001100000"
          ∷ [];
      xchanges =
          header
          ∷ "#AAA    "
          ∷ "-100,*   ,*  ,*   ,020,00001"
          ∷ "-*  ,BOAT,100,BOAT,030,00001"
          ∷ "-100,*   ,*  ,*   ,099,00002"
          ∷ "-200,IC  ,*  ,*   ,999,00001"
          ∷ "#BBB    "
          ∷ [];
    }

-- other lines for service 8
abbrev pub other8 : List String
other8 =
    "#00000008"
    ∷ "%200,00013,       ,000,999,                              "
    ∷ "-00001,000,999"
    ∷ "&BOAT,000,002"
    ∷ "&IC  ,002,999"
    ∷ ">CCC    ,0040"
    ∷ "+BBB    ,0210,0220"
    ∷ "?     ,3    ,00002"
    ∷ "<AAA    ,0311"
    ∷ []

-- CHANGES TO A FILE'S LINES, counted from 1, the first line included
-- another line in the place of line k
abbrev pub put : ℕ → String → List String → List String
put k s ls = take (k - 1) ls ++ (s ∷ drop k ls)

-- a new line k, before the one that was there
abbrev pub insert : ℕ → String → List String → List String
insert k s ls = take (k - 1) ls ++ (s ∷ drop (k - 1) ls)

-- lines k and on, n of them, left out
abbrev pub omit : ℕ → ℕ → List String → List String
omit k n ls = take (k - 1) ls ++ drop (k - 1 + n) ls

-- other lines altogether
abbrev pub instead : List String → List String → List String
instead new ls = new

-- a value for one file, the others as they were
abbrev pub at : {A : Type 0} → File → (A → A) → PerFile A → PerFile A
at f g v = per_file (λ h. cond (eqb (file_number f) (file_number h)) (g (of v h)) (of v h))

-- the small delivery with one file's lines changed
abbrev pub edit : File → (List String → List String) → PerFile (List String)
edit f g = at f g small

-- the bytes of eleven files, every line ended
abbrev pub files : PerFile (List String) → PerFile (List ℕ)
files D = per_file (λ f. written (of D f))

-- the last n bytes of a text left out
abbrev pub short : ℕ → List ℕ → List ℕ
short n s = take (length s - n) s

-- every file's first line changed
abbrev pub headed : String → PerFile (List String) → PerFile (List String)
headed s D = per_file (λ f. put 1 s (of D f))
