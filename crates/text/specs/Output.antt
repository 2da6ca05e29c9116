-- What the writers of a text say of a buffer.
use Rattle.std.specs.Prelude.{List, ◌++◌, ◌≡◌, ℕ, ◌≤◌, ◌<◌, min, length, take}
use Rattle.atoms.specs.Bytes.{put_at}
use Rattle.text.specs.declared.draft.Draft.{Draft}

-- The first `at` bytes of a buffer are those of T, as many as there is room for.
pub record Begins (T buffer : List ℕ) (at : ℕ) : Type 0 where
  pub fills : at ≡ min (length T) (length buffer)
  pub same : take at buffer ≡ take at T

-- The same of a draft: what stands in it is T.
abbrev pub Holds : List ℕ → Draft → Type 0
Holds T d = Begins T d.text.now d.len

-- New bytes come after those that stand.
pub record Appends (new : List ℕ) (before after : Draft) : Type 0 where
  pub same_reference : after.text.ghost_name ≡ before.text.ghost_name
  pub size : length after.text.now ≡ length before.text.now
  pub follows : (T : List ℕ) → Holds T before → Holds (T ++ new) after

-- A text stands at a buffer's beginning, as much of it as there is room for: r bytes.
pub record Started (text entry exit : List ℕ) (r : ℕ) : Type 0 where
  pub size : length exit ≡ length entry
  pub begins : Begins text exit r

-- The bytes of a draft, in which a text is made up before it is handed over, and the longest that is.
abbrev pub draft : ℕ
draft = 16384

unfoldable pub longest : ℕ
longest = 16383

abbrev pub room : List ℕ → ℕ
room output = min (length output) longest

-- A text stands whole at the output's beginning, and r is its length; where it does not fit, nothing is written and r is 0.
pub record Gives (text entry exit : List ℕ) (r : ℕ) : Type 0 where
  pub output : exit ≡ put_at entry 0 text
  pub fits : length text ≤ length entry → r ≡ length text
  pub short : length entry < length text → r ≡ 0

-- The same of a text that fits the draft; one that does not is not written either.
pub record Reported (text entry exit : List ℕ) (r : ℕ) : Type 0 where
  pub size : length text ≤ room entry → r ≡ length text
  pub written : length text ≤ room entry → exit ≡ put_at entry 0 text
  pub nothing : room entry < length text → r ≡ 0
  pub unchanged : room entry < length text → exit ≡ entry
