-- What holds of two halves between any two moves.
use Rattle.std.proofs.Common.{◌≡◌, ◌⊎◌, ℕ, ◌+◌, ◌/◌, ◌<◌, ◌≤◌, Bool, true, false, ◌&&◌, List, [], length, Option, Some, slice_get}
use Rattle.avs_model.specs.declared.entry.Entry.{Entry}
use Rattle.avs_mirrors.specs.Allowed.{IsLast}
use Rattle.avs_mirrors.specs.Due.{Due, has, is_zero}
use Rattle.avs_mirrors.specs.Entries.{Images, SameSize, after_entries, after_entry, between, block_in, touches}
use Rattle.avs_mirrors.specs.Half.{HalfState, Logging, Message, State, Sets, is_acting, is_marked, is_receiving, is_sending, knows_mark}
use Rattle.avs_mirrors.specs.Pair.{PairState, Session, is_copying, on_both}
use Rattle.avs_pair.specs.Cover.{HasNoPlaces}
use Rattle.avs_pair.specs.Messages.{AreFaithful}
use Rattle.avs_pair.specs.Session.{AreFitting, HasMark}

-- outside these segments of these sets two have the same blocks
pub record SameOutside (on : Sets) (due : Due) (a b : Images) : Type 0 where
  pub each : (set i : ℕ) → on set ≡ true → has due set (i / 64) ≡ false → block_in a set i ≡ block_in b set i

-- outside the segments of two
pub record SameOutsideBoth (on : Sets) (due other : Due) (a b : Images) : Type 0 where
  pub each : (set i : ℕ) → on set ≡ true → has due set (i / 64) ≡ false → has other set (i / 64) ≡ false → block_in a set i ≡ block_in b set i

-- the entries behind a place touch segments alone that are due
pub record IsPending (on : Sets) (due : Due) (order : List Entry) (applied : ℕ) : Type 0 where
  pub each : (j : ℕ) (e : Entry) (set seg : ℕ) → on set ≡ true → applied ≤ j → slice_get order j ≡ Some e → has due set seg ≡ false → touches e set seg ≡ false

pub record IsFreed (due : Due) (order : List Entry) (known : ℕ) : Type 0 where
  pub each : (set seg place : ℕ) → due set seg ≡ Some place → 0 < place → IsLast order known set seg place

-- a segment still waits to be copied
abbrev pub is_waiting : Session → Option ℕ → Bool
is_waiting s due = is_copying s && is_zero due

-- the target's own changes do not count while it receives
abbrev pub IsClean : HalfState → ℕ → ℕ → Type 0
IsClean y set seg = (is_receiving y ≡ true) ⊎ (has y.due set seg ≡ false)

-- once the target has applied all, it has the source's blocks, but for the segments that wait to be copied
pub record IsAhead (x y : HalfState) (s : Session) : Type 0 where
  pub each : (set i : ℕ) → on_both x y set ≡ true → is_waiting s (x.due set (i / 64)) ≡ false → IsClean y set (i / 64)
      → block_in (after_entries y.images (between y.applied (length s.order) s.order)) set i ≡ block_in x.images set i

-- once the target has applied the mark, it has the images that the source had there
pub record IsBefore (y : HalfState) (s : Session) : Type 0 where
  pub each : 0 < s.mark → y.applied ≤ s.mark → (set i : ℕ) → y.on set ≡ true
      → block_in (after_entries y.images (between y.applied s.mark s.order)) set i ≡ block_in s.candidate set i

-- from the mark on it has these images with the entries behind the mark
abbrev pub IsBlockBehind : HalfState → Session → ℕ → ℕ → Type 0
IsBlockBehind y s set i = block_in y.images set i ≡ block_in (after_entries s.candidate (between s.mark y.applied s.order)) set i

-- the entry of a place put once more changes nothing
pub record IsOnce (images : Images) (order : List Entry) (place : ℕ) : Type 0 where
  pub each : (j : ℕ) (e : Entry) → j + 1 ≡ place → slice_get order j ≡ Some e → (set i : ℕ) → block_in (after_entry images e) set i ≡ block_in images set i

-- a set that a half does not have here any more, but has still, is away with the half in no session
pub record IsHere (on here : Sets) (state : State) : Type 0 where
  pub within : (set : ℕ) → here set ≡ true → on set ≡ true
  pub away : (set : ℕ) → on set ≡ true → here set ≡ false → state ≡ Logging

-- what holds of a set while nothing but entries came to the target's blocks
pub record Keeps (x y : HalfState) (s : Session) (set : ℕ) : Type 0 where
  pub size : 0 < s.mark → SameSize s.candidate y.images set
  pub behind : 0 < s.mark → s.mark ≤ y.applied → (i : ℕ) → IsBlockBehind y s set i
  pub there : is_sending x ≡ true → x.on set ≡ true
  pub contents : y.contents set ≡ knows_mark s.mark y.applied

-- what holds while the target receives
pub record Receives (x y : HalfState) (s : Session) : Type 0 where
  pub number : y.number ≡ s.number
  pub some : 0 < y.number
  pub on : (set : ℕ) → y.on set ≡ s.sets set
  pub here : (set : ℕ) → y.here set ≡ s.sets set
  pub contents : (set : ℕ) → s.sets set ≡ true → y.contents set ≡ is_marked y.state
  pub kept : (set : ℕ) → s.sets set ≡ true → y.kept set ≡ true
  pub pending : IsPending (on_both x y) x.due s.order y.applied
  pub covered : SameOutside (on_both x y) x.due y.images x.images
  pub before : IsBefore y s
  pub reached : is_marked y.state ≡ knows_mark s.mark y.applied
  pub fits : AreFitting s y.images
  pub once : IsOnce y.images s.order y.applied

-- what holds while the source sends, whatever became of the target
pub record Stands (x : HalfState) (s : Session) : Type 0 where
  pub number : x.number ≡ s.number
  pub some : 0 < x.number
  pub counted : x.last ≡ length s.order
  pub reached : x.known ≤ length s.order
  pub taken : x.taken ≤ length s.order
  pub on : (set : ℕ) → x.on set ≡ s.sets set
  pub here : (set : ℕ) → x.here set ≡ s.sets set
  pub contents : (set : ℕ) → s.sets set ≡ true → x.contents set ≡ true
  pub freed : IsFreed x.due s.order x.known
  pub synced : is_marked x.state ≡ true → (0 < s.mark) × (s.mark ≤ x.known)
  pub sizes : 0 < s.mark → (set : ℕ) → x.on set ≡ true → SameSize s.candidate x.images set
  pub fits : AreFitting s x.images
  pub once : IsOnce x.images s.order (length s.order)

-- what holds while the source sends to a target that is or was in its session
pub record Sends (x y : HalfState) (s : Session) : Type 0 where
  pub pending : IsPending x.on x.due s.order y.applied
  pub ahead : IsAhead x y s
  pub behind : 0 < s.mark → s.mark ≤ y.applied → (set i : ℕ) → on_both x y set ≡ true → IsClean y set (i / 64) → IsBlockBehind y s set i

-- a message that brings a place back to a source that acts has the target's number
pub record AreAnswered (source_number target_number : ℕ) (acts : Bool) (messages : List Message) : Type 0 where
  pub each : (k : ℕ) (m : Message) (n : ℕ) → slice_get messages k ≡ Some m → m.got ≡ Some n → m.number ≡ source_number → acts ≡ true → source_number ≡ target_number

pub record Sound (p : PairState) : Type 0 where
  pub sizes : (set : ℕ) → on_both p.source p.target set ≡ true → SameSize p.target.images p.source.images set
  pub no_source : is_receiving p.source ≡ false
  pub no_target : is_sending p.target ≡ false
  pub source_here : IsHere p.source.on p.source.here p.source.state
  pub target_here : IsHere p.target.on p.target.here p.target.state
  pub newest : (p.session.number ≤ p.source.number) ⊎ (p.session.number ≤ p.target.number)
  pub mark : HasMark p.session
  pub applied : p.target.number ≡ p.session.number → p.target.applied ≤ length p.session.order
  pub none_applied : p.target.number ≡ 0 → p.target.applied ≡ 0
  pub none_known : p.source.number ≡ 0 → p.source.known ≡ 0
  pub known : 0 < p.source.number → p.source.number ≡ p.target.number → p.source.known ≤ p.target.applied
  pub covered : SameOutsideBoth (on_both p.source p.target) p.source.due p.target.due p.target.images p.source.images
  pub source_away : is_sending p.source ≡ false → HasNoPlaces p.source.due
  pub target_away : HasNoPlaces p.target.due
  pub stands : is_sending p.source ≡ true → Stands p.source p.session
  pub receives : is_receiving p.target ≡ true → Receives p.source p.target p.session
  pub sends : is_sending p.source ≡ true → p.source.number ≡ p.target.number → Sends p.source p.target p.session
  pub kept_on : (set : ℕ) → p.target.kept set ≡ true → p.target.on set ≡ true
  pub kept_some : (set : ℕ) → p.target.kept set ≡ true → 0 < p.target.number
  pub keeps : (set : ℕ) → p.target.kept set ≡ true → p.target.number ≡ p.session.number → Keeps p.source p.target p.session set
  pub messages : AreFaithful p.session p.target.number p.target.applied p.messages
  pub answered : AreAnswered p.source.number p.target.number (is_acting p.source) p.messages
  pub held : AreFaithful p.session p.target.number p.target.applied p.target.held
  pub none_held : is_receiving p.target ≡ false → p.target.held ≡ []
