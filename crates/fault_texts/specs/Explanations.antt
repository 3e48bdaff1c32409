-- A refusal of a file, as people read it.
use Rattle.std.specs.Prelude.{ℕ, ◌+◌, ◌-◌, ◌++◌, List, take, drop, codes, decimal}
use Rattle.std.specs.Str.Lossy.{utf8_lossy}
use Rattle.fault_texts.specs.declared.place.Place.{Place}
use Rattle.fault_texts.specs.Places.{place}
use Rattle.fault_texts.specs.Cutting.{blank, width, front_shown, behind_shown}

-- the bytes from one offset up to another
abbrev pub part : ℕ → ℕ → List ℕ → List ℕ
part begin end text = take (end - begin) (drop begin text)

-- where the file is refused, by line and column; what is shown of that line in front of the place and from it on; the mark; and what is wrong
abbrev pub explanation_of : List ℕ → ℕ → ℕ → List ℕ → List ℕ → List ℕ → List ℕ
explanation_of path line column front behind sentence =
    path ++ (codes ":" ++ (decimal line ++ (codes ":" ++ (decimal column ++ (codes "\n"
    ++ ((front ++ behind) ++ (codes "\n" ++ (blank front ++ (codes "^\n" ++ sentence)))))))))

-- the same of the two parts of the line, as they are shown whole
abbrev pub explained_by : List ℕ → ℕ → List ℕ → List ℕ → List ℕ → List ℕ
explained_by path line front behind sentence =
    explanation_of path line (width front + 1) (front_shown front behind) (behind_shown front behind) sentence

-- the same at a place of a text
abbrev pub explanation_at : List ℕ → List ℕ → Place → List ℕ → List ℕ
explanation_at path text p sentence =
    explained_by path p.line (utf8_lossy (part p.begin p.at text)) (utf8_lossy (part p.at p.end text)) sentence

abbrev pub explanation : List ℕ → List ℕ → ℕ → List ℕ → List ℕ
explanation path text offset sentence = explanation_at path text (place text offset) sentence
