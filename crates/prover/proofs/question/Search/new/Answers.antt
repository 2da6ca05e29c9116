-- The clauses known are those of the flat clauses and the steps, and no row is kept.
use mathlib.Core.Path.{refl}
use Prim.Native.Nat.{zero-le}
use Rattle.atoms.proofs.Machine.{row_count_words}
use Rattle.ipl.specs.Range.{step_table, world_table}
use Rattle.prover.proofs.Pairs.{passed_first}
use borrow.Author.Rules.{rules}
use native.Mathlib.Omega.{arith}
use Rattle.prover.proofs.question.Search.new.Goals as goal

pub returns : goal.returns
returns c = λ n u.
    let k = c.of.ensures n u in
    record {
      fresh = record {
        working = record {
          left_rows = k.left_rows;
          right_rows = k.right_rows;
          numbers_size = search rules;
          assumed_rows = row_count_words _ step_table (search rules);
          set_rows = row_count_words _ world_table (search rules);
          few_flats = c.requires.few_flats;
          few_steps = c.requires.few_steps;
          few_worlds = zero-le;
          known_rows = rw k.flat_rows k.known_rows;
          pair_number = zero-le;
          pair_world = zero-le;
          passed = passed_first _ _;
          keeps = λ m h i l. absurd (omega arith);
        };
        no_worlds = refl;
        no_questions = refl;
      };
      same_flats = k.flat_rows;
      same_steps = refl;
    }
