-- What messages tell: of the session that both halves entered last, each its entry; and each answer a place that was applied.
use Rattle.std.specs.Prelude.{◌≡◌, ℕ, ◌-◌, ◌<◌, ◌≤◌, List, Some, slice_get}
use Rattle.avs_mirrors.specs.Half.{Message}
use Rattle.avs_mirrors.specs.Pair.{Session, PairState}

-- a message is of this session or of an older one; of this one it has the entry at its place; and where it brings a place back to a
-- sender whose receiver has this number and has applied so much, that place was applied
pub record IsFaithful (s : Session) (target_number reached : ℕ) (m : Message) : Type 0 where
  pub old : m.number ≤ s.number
  pub some : 0 < m.place
  pub entry : m.number ≡ s.number → slice_get s.order (m.place - 1) ≡ Some m.entry
  pub told : (n : ℕ) → m.got ≡ Some n → m.number ≡ target_number → n ≤ reached

pub record AreFaithful (s : Session) (target_number reached : ℕ) (messages : List Message) : Type 0 where
  pub each : (k : ℕ) (m : Message) → slice_get messages k ≡ Some m → IsFaithful s target_number reached m

-- all messages, and those that the target holds
pub record HasFaithful (p : PairState) : Type 0 where
  pub messages : AreFaithful p.session p.target.number p.target.applied p.messages
  pub held : AreFaithful p.session p.target.number p.target.applied p.target.held
