-- The delivery of the check program: P3's span, one six-line service of two stops, and none of the three files that may be absent.
use Rattle.std.specs.Prelude.{ℕ, List, [], ◌∷◌, replicate}
use Prim.Native.String.{String}
use Rattle.iff.specs.Files.{PerFile}
use Rattle.iff.specs.Bytes.{bytes}
use Rattle.small_delivery.specs.Text.{text_of, written}

-- 01012015 to 10032017
abbrev pub eight_hundred : String
eight_hundred = "@100,01012015,10032017,0001,Check                         "

-- 01012015 to 11032017
abbrev pub eight_hundred_and_one : String
eight_hundred_and_one = "@100,01012015,11032017,0001,Check                         "

-- the six lines of the service, the last of them given
abbrev pub six : String → List String
six last =
    "#00000001" ∷ "%100,00001,       ,001,002,                              " ∷ "-00001,001,002" ∷ "&IC  ,001,002" ∷ ">AAA    ,0900" ∷ last ∷ []

abbrev pub last_stop : String
last_stop = "<BBB    ,1000"

-- a first line, the marks of a vector, and the last line of the service
abbrev pub checked : String → ℕ → String → PerFile (List ℕ)
checked first days last =
    record {
      delivery = written (first ∷ []);
      company = written (first ∷ "100,RAIL      ,Railways                      ,0400" ∷ []);
      country = written (first ∷ "NL  ,1,Netherlands                   " ∷ []);
      trnsmode = written (first ∷ "IC  ,Intercity                     " ∷ []);
      timezone = written (first ∷ "#0000" ∷ "+00,01012015,31122017" ∷ []);
      stations =
          written
          (first
          ∷ "1,AAA    ,05,05,NL  ,0000,  ,000000,000000,Alpha                         "
          ∷ "1,BBB    ,05,05,NL  ,0000,  ,000000,000000,Beta                          "
          ∷ []);
      footnote = text_of (bytes first ∷ bytes "#00001" ∷ replicate days 49 ∷ []);
      timetbls = written (first ∷ six last);
      changes = [];
      xfootnote = [];
      xchanges = [];
    }
