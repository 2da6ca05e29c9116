-- Cases 1 to 10 of document 01 as a table, and what each row claims.
use Rattle.std.specs.Prelude.{List, [], ◌∷◌, ◌++◌, ◌≡◌, ℕ, length, replicate}
use Prim.Native.String.{String}
use Rattle.ipl.specs.Book.{opened}
use Rattle.syntax.specs.Nodes.{nodes}
use Rattle.syntax.specs.Judge.{Judgement, refused, accepted, judge}
use Rattle.clausify.specs.Naming.{atom_count, calls}
use Rattle.clausify.specs.Additions.{Unrefused}
use Rattle.text.specs.Text.{ascii}
use Rattle.report.specs.Printed.{printed, sheet}

-- The whole output; the sheet's length; or that the text passes the reader and the naming, with so many atoms.
pub data Claim : Type 0 where
  prints : String → Claim
  has_sheet : ℕ → Claim
  passes : ℕ → Claim

pub record Case : Type 0 where
  pub text : List ℕ
  pub claim : Claim

-- The reader accepts, and none of the additions is refused.
abbrev pub Passes : ℕ → Judgement → Type 0
Passes n (refused number place) = ⊥
Passes n (accepted t) = (atom_count (nodes t).table ≡ n) × Unrefused (opened n) (calls (nodes t).table)

abbrev pub Claimed : List ℕ → Claim → Type 0
Claimed s (prints output) = printed s ≡ ascii output
Claimed s (has_sheet bytes) = length (sheet s) ≡ bytes
Claimed s (passes n) = Passes n (judge s)

abbrev pub Holds : Case → Type 0
Holds c = Claimed c.text c.claim

-- `~` so many times before p.
abbrev pub tildes : ℕ → List ℕ
tildes n = replicate n 126 ++ ascii "p"

abbrev pub cases : List Case
cases =
    record {
      text = ascii "((p>q)>p)>p";
      claim = prints "refuted\natoms 5 questions 9 learned 1\nworld 0\nworld 25\nworld 20\nworld 8\n";
    }
    ∷ record { text = ascii "p|~p"; claim = prints "refuted\natoms 3 questions 2 learned 0\nworld 0\nworld 5\n" }
    ∷ record { text = ascii "p>p"; claim = prints "valid\natoms 2 questions 3 learned 1\nstep 0 1\n" }
    ∷ record { text = ascii "p>p"; claim = has_sheet 83 }
    ∷ record { text = ascii "0"; claim = prints "refuted\natoms 1 questions 1 learned 0\nworld 0\n" }
    ∷ record { text = ascii "0>0"; claim = prints "valid\natoms 1 questions 1 learned 0\n" }
    ∷ record { text = ascii "p q"; claim = prints "refused 3 at 2\n" }
    ∷ record { text = ascii "(p"; claim = prints "refused 3 at 2\n" }
    ∷ record { text = tildes 63; claim = passes 64 }
    ∷ record { text = tildes 64; claim = prints "refused 4\n" }
    ∷ []
