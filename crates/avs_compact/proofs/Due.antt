-- The least chunk that stands in its slot alone.
use Rattle.std.proofs.Common.{◌≡◌, ◌≢◌, inl, inr, ℕ, ◌<◌, Option, Some, None, IfSome, IfNone, Result, Ok, Err, refl, arith}
use Rattle.avs_dev.specs.Seen.{Seen}
use Rattle.avs_over.specs.Over.{OverSet}
use Rattle.avs_entries.specs.Entries.{state_by}
use Rattle.avs_entries.specs.Counting.{FindsDue}
use Rattle.avs_compact.specs.CompactSet.{CompactSet, entry_of, chunks_of}
use Rattle.avs_compact.specs.Keeping.{MaySettle, Settles}
use Rattle.avs_compact.specs.Copying.{CopiesOne}
use Rattle.avs_compact.proofs.Settled.{zero_state}
use Rattle.avs_compact.proofs.Settles.{settles_ok, settles_err}

pub due_passed : (entries : ℕ → ℕ) (n due : ℕ) (found : Option ℕ) → FindsDue entries n found → IfSome found (λ c. due ≡ c) → IfNone found (due ≡ n) → (c : ℕ) → c < due → c < n → state_by (entries c) ≢ 3
due_passed entries n due (Some k) f is none c low lt = f.least c (omega (arith, low, is))
due_passed entries n due None f is none c low lt = f.none c lt

three_some : (e : ℕ) → state_by e ≡ 3 → e ≢ 0
three_some e three z = (let none = zero_state e z in omega (arith, none, three))

pub may_back : (s : CompactSet) (chunk : ℕ) → chunk < chunks_of s → state_by (entry_of s chunk) ≡ 3 → MaySettle s chunk 1
may_back s chunk there three = record {
  there = there;
  slot = three_some (entry_of s chunk) three;
  targets = inr refl;
  whole = λ two. omega (arith, two, three);
  copies = λ _. three;
}

pub may_split : (s : CompactSet) (chunk : ℕ) → chunk < chunks_of s → entry_of s chunk ≢ 0 → state_by (entry_of s chunk) ≢ 2 → MaySettle s chunk 2
may_split s chunk there some whole = record { there = there; slot = some; targets = inl refl; whole = whole; copies = λ one. absurd (omega (arith, one)) }

-- a copy step that came to an end
pub copies_ok : {T E E' : Type 0} (s s' : CompactSet) (o o' : OverSet) (m m' : Seen) (chunk : ℕ) (q : Result T E) (x : T) → FindsDue (entry_of s) (chunks_of s) (Some chunk) → q ≡ Ok x → Settles s o m chunk 1 q s' o' m' → CopiesOne {E = E'} s o m (Ok (Some chunk)) s' o' m'
copies_ok s s' o o' m m' chunk q x finds is st = record { due = Some chunk; finds = finds; copies = (settles_ok s s' o o' m m' chunk 1 q x (Some chunk) is st, refl) }

pub copies_err : {T E E' : Type 0} (s s' : CompactSet) (o o' : OverSet) (m m' : Seen) (chunk : ℕ) (q : Result T E) (e : E) (e' : E') → FindsDue (entry_of s) (chunks_of s) (Some chunk) → q ≡ Err e → Settles s o m chunk 1 q s' o' m' → CopiesOne s o m (Err e') s' o' m'
copies_err s s' o o' m m' chunk q e e' finds is st = record { due = Some chunk; finds = finds; copies = (settles_err s s' o o' m m' chunk 1 q e e' is st, tt) }

pub copies_none : {E : Type 0} (s : CompactSet) (o : OverSet) (m : Seen) → FindsDue (entry_of s) (chunks_of s) None → CopiesOne {E = E} s o m (Ok None) s o m
copies_none s o m finds = record { due = None; finds = finds; copies = (record { set = refl; over = refl; master = refl }, (refl, refl)) }

pub state_some_two : (e : ℕ) → state_by e ≡ 2 → e ≢ 0
state_some_two e two z = (let none = zero_state e z in omega (arith, none, two))
