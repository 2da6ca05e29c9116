-- The judgement of any bytes: 13, 14, 15, 16 with its place, or accepted (document 01: "The maker of a sheet (in order)").
use Rattle.std.specs.Prelude.{Bool, not, cond, ◌&&◌, List, ℕ, eqb, leb, length, get_or, take}
use Rattle.std.proofs.Math.Option.{Option, none, some, or_else}
use Rattle.atoms.specs.Sets.{has, within}
use Rattle.ipl.specs.Lists.{all, any}
use Rattle.ipl.specs.First.{first_failing}
use Rattle.ipl.specs.Clause.{satisfies, closed, realizes}
use Rattle.ipl.specs.Range.{flat_table, implication_table, step_table, world_table, atom_or_bot, set_in_range, flat_in_range, implication_in_range}
use Rattle.ipl.specs.Question.{ask}
use Rattle.ipl.specs.Search.{Step, step_in_range, implication_at, known, is_none}
use Rattle.ipl.specs.Book.{count_in_range}
use Rattle.certificate.specs.Certificate.{Problem, Claim, valid, refuted, Judgement, accepted, refused}
use Rattle.certificate.specs.Layout.{laid_out, problem_of, claim_of}

-- "14: a number or count out of range"; m is the number of implications.
unfoldable pub claim_in_range : ℕ → ℕ → Claim → Bool
claim_in_range n m (valid S) = leb (length S) step_table && all (step_in_range n m) S
claim_in_range n m (refuted W) = leb (length W) world_table && all (set_in_range n) W

unfoldable pub counts_in_range : ℕ → ℕ → ℕ → Bool
counts_in_range n F X = count_in_range n && leb F flat_table && leb X implication_table

unfoldable pub in_range : Problem → Claim → Bool
in_range p c =
    counts_in_range p.n (length p.flats) (length p.implications)
    && atom_or_bot p.n p.goal
    && all (flat_in_range p.n) p.flats
    && all (implication_in_range p.n) p.implications
    && claim_in_range p.n (length p.implications) c

-- "15: a closing clause missing."
unfoldable pub all_closed : Problem → Bool
all_closed p = all (closed p.flats) p.implications

-- Step k.
abbrev pub step_at : List Step → ℕ → Step
step_at S k = get_or S k (record { number = 0; assumed = 0 })

-- Step k is right: "the flat clauses with the first k learned clauses and A prove b".
unfoldable pub step_proves : Problem → List Step → ℕ → Bool
step_proves p S k =
    is_none (ask p.n (known p.flats p.implications (take k S)) (step_at S k).assumed (implication_at p.implications (step_at S k).number).b)

-- "At the end all prove the goal."
unfoldable pub goal_proved : Problem → List Step → Bool
goal_proved p S = is_none (ask p.n (known p.flats p.implications S) 0 p.goal)

-- World k is right: it differs from the worlds before it ("of equal worlds the later is wrong"), "includes the first,
-- satisfies the flat clauses and realizes each implication"; "the first lacks the goal".
unfoldable pub world_right : Problem → List ℕ → ℕ → Bool
world_right p W k =
    not (any (eqb (get_or W k 0)) (take k W))
    && within (get_or W 0 0) (get_or W k 0)
    && all (satisfies (get_or W k 0)) p.flats
    && all (realizes W (get_or W k 0)) p.implications
    && not (eqb k 0 && has (get_or W k 0) p.goal)

-- "With the first wrong step (the number of steps, for the goal) or world"; none where the claim is right.
unfoldable pub wrong_place : Problem → Claim → Option ℕ
wrong_place p (valid S) = or_else (first_failing (step_proves p S) (length S)) (cond (goal_proved p S) none (some (length S)))
wrong_place p (refuted W) = first_failing (world_right p W) (length W)

-- "16: a claim not right."
unfoldable pub judge_claim : Problem → Claim → Option ℕ → Judgement
judge_claim p c none = accepted p c
judge_claim p c (some place) = refused 16 place

unfoldable pub judge_read : Problem → Claim → Judgement
judge_read p c = cond (in_range p c) (cond (all_closed p) (judge_claim p c (wrong_place p c)) (refused 15 0)) (refused 14 0)

unfoldable pub judge : List ℕ → Judgement
judge s = cond (laid_out s) (judge_read (problem_of s) (claim_of s)) (refused 13 0)
