-- One entry of the contents at a position.
use mathlib.Core.Bool.{Bool, true, false, cond}
use mathlib.Core.List.{List}
use mathlib.Core.Path.{◌≡◌, refl, sym, subst}
use Prim.Native.Nat.{ℕ, ◌+◌, ◌≤◌, ◌<◌}
use lib.ListN.{length, get_or}
use borrow.Author.Tests.{le-leb, lt-leb, leb-true, leb-false}
use Rattle.std.proofs.Common.{Option, Some, None}
use Rattle.atoms.specs.Bytes.{number_at}
use Rattle.certificate.specs.Format.{entry_bytes}
use Rattle.certificate.specs.Reading.{stands_at, entry_at, next_at, TakenRead}
use Rattle.certificate.specs.declared.reader.Entry.{Entry}
use Rattle.certificate.specs.declared.reader.Reader.{Reader}

-- An entry was taken: its bytes are there, and the position moved past it.
pub record EntryTaken (s : List ℕ) (at : ℕ) (e : Entry) (next : ℕ) : Type 0 where
  pub room : at + entry_bytes ≤ length s
  pub kind_is : e.kind ≡ get_or s at 0
  pub start_is : e.start ≡ number_at s (at + 1) 4
  pub size_is : e.size ≡ number_at s (at + 5) 4
  pub next_is : next ≡ at + entry_bytes

-- None was: there are fewer bytes, and the position stays.
pub record NoneTaken (s : List ℕ) (at next : ℕ) : Type 0 where
  pub short : length s < at + entry_bytes
  pub next_is : next ≡ at

abbrev pub Told : List ℕ → ℕ → Option Entry → ℕ → Type 0
Told s at (Some e) next = EntryTaken s at e next
Told s at None next = NoneTaken s at next

module _ (s : List ℕ) (at : ℕ) where
  pub entry_past : length s < at + entry_bytes → None ≡ entry_at s at
  unfolding entry_at
  entry_past h = rw (lt-leb (at + entry_bytes) (length s) h) refl

  pub entry_there : at + entry_bytes ≤ length s → (kind start size : ℕ) → kind ≡ get_or s at 0 → start ≡ number_at s (at + 1) 4 → size ≡ number_at s (at + 5) 4
      → Some (record { kind = kind; start = start; size = size }) ≡ entry_at s at
  unfolding entry_at
  entry_there h kind start size k a b = rw (le-leb (at + entry_bytes) (length s) h, ← k, ← a, ← b) refl

  entry_told : Told s at (entry_at s at) (next_at s at)
  unfolding entry_at next_at
  entry_told = go (stands_at s at) refl
    where
      there : Entry
      there = record { kind = get_or s at 0; start = number_at s (at + 1) 4; size = number_at s (at + 5) 4 }

      go : (b : Bool) → stands_at s at ≡ b → Told s at (cond b (Some there) None) (cond b (at + entry_bytes) at)
      go true e = record { room = leb-true (at + entry_bytes) (length s) e; kind_is = refl; start_is = refl; size_is = refl; next_is = refl }
      go false e = record { short = leb-false (at + entry_bytes) (length s) e; next_is = refl }

  pub told_of : (r : Option Entry) → r ≡ entry_at s at → Told s at r (next_at s at)
  told_of r e = subst (λ z. Told s at z (next_at s at)) (sym e) entry_told

-- By the reader.
pub taken_told : (before after : Reader) (r : Option Entry) → TakenRead before after r → Told before.src.now before.at r after.at
taken_told before after r t = subst (λ z. Told before.src.now before.at r z) (sym t.next_is) (told_of before.src.now before.at r t.is)
