-- What the code's values say of the bytes.
use Rattle.std.specs.Prelude.{true, false, List, ◌++◌, ◌⊎◌, ◌≡◌, ℕ, ◌+◌, ◌≤◌, ◌<◌, T, length, take, Option, Some, None, Result, Ok, Err}
use Rattle.std.proofs.Math.Option as math
use Rattle.std.proofs.Math.Option.{none, some}
use Rattle.atoms.specs.Words.{row_count}
use Rattle.ipl.specs.Search.{Step, known}
use Rattle.sat.specs.Table.{clauses}
use Rattle.sat.specs.Learning as learning
use Rattle.sat.specs.declared.Proof.{Proof}
use Rattle.certificate.specs.Certificate.{Problem, Claim, Judgement, accepted, refused}
use Rattle.certificate.specs.Format.{entry_bytes, bodies_start, claim_start, total_length, longest_accepted}
use Rattle.certificate.specs.Layout.{flats_in, steps_in, worlds_in, rows_in, entry_right}
use Rattle.certificate.specs.Layout.{refuting, flat_count, implication_count, claim_count, claim_laid, laid_in, laid_out, problem_in, claim_in}
use Rattle.certificate.specs.Judge.{in_range, step_proves, judge}
use Rattle.certificate.specs.Faults.{number_of, place_of}
use Rattle.certificate.specs.declared.Contents.{Contents}
use Rattle.certificate.specs.declared.fault.Fault.{Fault}
use Rattle.certificate.specs.declared.reader.Reader.{Reader}
use Rattle.certificate.specs.declared.sheet.Sheet.{Sheet}

-- The problem and the claim that a table of contents finds in the bytes.
abbrev pub problem_by : List ℕ → Contents → Problem
problem_by s k = problem_in s k.flats k.implications

abbrev pub claim_by : List ℕ → Contents → Claim
claim_by s k = claim_in s (claim_start k.flats k.implications) k.refuting k.rows

-- The place of a refusal; 0 where it has none.
abbrev pub place_or_zero : Option ℕ → ℕ
place_or_zero (Some place) = place
place_or_zero None = 0

-- The answer as a judgement.
abbrev pub judgement_of : List ℕ → Result Contents Fault → Judgement
judgement_of s (Ok k) = accepted (problem_by s k) (claim_by s k)
judgement_of s (Err fault) = refused (number_of fault) (place_or_zero (place_of fault))

-- Of the beginning of a certificate with `more` bytes after it: the judgement of all, whatever these are, where the beginning has
-- room for every certificate in range. The answer to a shorter beginning is of no use, and is the program's choice.
abbrev pub BeginningChecked : List ℕ → ℕ → Result Contents Fault → Type 0
BeginningChecked s more r = (rest : List ℕ) → length rest ≡ more → (more ≡ 0) ⊎ (longest_accepted ≤ length s) → judgement_of (s ++ rest) r ≡ judge (s ++ rest)

-- The place of what is wrong.
abbrev pub found_at : Option ℕ → math.Option ℕ
found_at None = none
found_at (Some place) = some place

-- An entry as it was asked for, with its rows and the position after it.
pub record EntryFound (s : List ℕ) (at kind start extra width count next : ℕ) : Type 0 where
  pub right : entry_right s at kind start extra width ≡ true
  pub count_is : count ≡ rows_in s at extra width
  pub next_is : next ≡ at + entry_bytes

-- Nothing is said of an entry that is not there whole.
abbrev pub EntryRead : List ℕ → ℕ → ℕ → ℕ → ℕ → ℕ → ℕ → Option ℕ → Type 0
EntryRead s at kind start extra width next (Some count) = EntryFound s at kind start extra width count next
EntryRead s at kind start extra width next None = at + entry_bytes ≤ length s → entry_right s at kind start extra width ≡ false

-- The same of a reader, which goes on in the same bytes.
pub record RowsRead (before : Reader) (kind start extra width : ℕ) (after : Reader) (r : Option ℕ) : Type 0 where
  pub read : EntryRead before.src.now before.at kind start extra width after.at r
  pub same : after.src ≡ before.src

-- The contents where the last entry is as it must be after F flat clauses and X implications, in L bytes.
pub record ClaimFound (s : List ℕ) (L F X : ℕ) (k : Contents) : Type 0 where
  pub laid : claim_laid s L F X (refuting s) ≡ true
  pub contents_are : k ≡ record { flats = F; implications = X; refuting = refuting s; rows = claim_count s }

abbrev pub ClaimRead : List ℕ → ℕ → ℕ → ℕ → Option Contents → Type 0
ClaimRead s L F X (Some k) = ClaimFound s L F X k
ClaimRead s L F X None = bodies_start ≤ length s → claim_laid s L F X (refuting s) ≡ false

-- The contents that the beginning of L bytes has where they keep the layout.
pub record ContentsRead (s : List ℕ) (L : ℕ) (k : Contents) : Type 0 where
  pub laid : laid_in s L ≡ true
  pub contents_are : k ≡ record { flats = flat_count s; implications = implication_count s; refuting = refuting s; rows = claim_count s }
  pub size : L ≡ total_length k.flats k.implications k.refuting k.rows

-- Nothing is said of bytes that are fewer than the contents.
abbrev pub BeginningRead : List ℕ → ℕ → Option Contents → Type 0
BeginningRead s L (Some k) = ContentsRead s L k
BeginningRead s L None = bodies_start ≤ length s → laid_in s L ≡ false

-- The same of all bytes.
abbrev pub LayoutRead : List ℕ → Option Contents → Type 0
LayoutRead s (Some k) = ContentsRead s (length s) k
LayoutRead s None = laid_out s ≡ false

-- A certificate with its contents.
pub record SheetOf (s : List ℕ) (sheet : Sheet) : Type 0 where
  pub same : sheet.bytes.now ≡ s
  pub contents : ContentsRead s (length s) sheet.contents

abbrev pub SheetRead : List ℕ → Option Sheet → Type 0
SheetRead s (Some sheet) = SheetOf s sheet
SheetRead s None = laid_out s ≡ false

-- The bodies are all there.
abbrev pub Sized : List ℕ → Contents → Type 0
Sized s k = length s ≡ total_length k.flats k.implications k.refuting k.rows

-- Bodies that are all there, with every number in range.
pub record Ranged (s : List ℕ) (k : Contents) : Type 0 where
  pub sized : Sized s k
  pub ranged : T (in_range (problem_by s k) (claim_by s k))

-- The steps and the worlds that a table of contents finds.
abbrev pub steps_by : List ℕ → Contents → List Step
steps_by s k = steps_in s (claim_start k.flats k.implications) k.rows

abbrev pub worlds_by : List ℕ → Contents → List ℕ
worlds_by s k = worlds_in s (claim_start k.flats k.implications) k.rows

-- Tables after both sides of the flat clauses were put into their first rows.
pub record FlatsLoaded (s : List ℕ) (count : ℕ) (left right left_after right_after : List ℕ) : Type 0 where
  pub size_left : length left_after ≡ length left
  pub size_right : length right_after ≡ length right
  pub loaded : clauses left_after right_after count ≡ flats_in s count

-- Before the steps: the tables hold the flat clauses and have room for the clauses of the steps.
pub record StepsReady (s : List ℕ) (k : Contents) (left right : List ℕ) : Type 0 where
  pub ranged : Ranged s k
  pub derives : k.refuting ≡ false
  pub room_left : k.flats + k.rows ≤ row_count left
  pub room_right : k.flats + k.rows ≤ row_count right
  pub loaded : clauses left right k.flats ≡ flats_in s k.flats

-- Before step i: the tables hold the flat clauses and those of the first i steps, from which the rows kept follow.
pub record StepReady (s : List ℕ) (k : Contents) (i : ℕ) (left right kept : List ℕ) (learned : ℕ) : Type 0 where
  pub ranged : Ranged s k
  pub derives : k.refuting ≡ false
  pub listed : i < k.rows
  pub room_left : k.flats + k.rows ≤ row_count left
  pub room_right : k.flats + k.rows ≤ row_count right
  pub loaded : clauses left right (k.flats + i) ≡ known (problem_by s k).flats (problem_by s k).implications (take i (steps_by s k))
  pub follow : learning.Kept left right (k.flats + i) kept learned

-- After it.
pub record StepJudged (s : List ℕ) (k : Contents) (i : ℕ) (left right left_after right_after kept : List ℕ) (r : Proof) : Type 0 where
  pub judged : r.proved ≡ step_proves (problem_by s k) (steps_by s k) i
  pub size_left : length left_after ≡ length left
  pub size_right : length right_after ≡ length right
  pub loaded : clauses left_after right_after (k.flats + (i + 1)) ≡ known (problem_by s k).flats (problem_by s k).implications (take (i + 1) (steps_by s k))
  pub follow : learning.Kept left_after right_after (k.flats + (i + 1)) kept r.kept

-- Before the worlds: the tables hold the flat clauses.
pub record WorldsReady (s : List ℕ) (k : Contents) (left right : List ℕ) : Type 0 where
  pub ranged : Ranged s k
  pub refutes : k.refuting ≡ true
  pub loaded : clauses left right k.flats ≡ flats_in s k.flats
