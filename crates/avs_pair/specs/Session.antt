-- Where two halves stand in the session that both entered last.
use Rattle.std.specs.Prelude.{◌≡◌, ◌⊎◌, ℕ, ◌+◌, ◌<◌, ◌≤◌, ◌==◌, true, false, length, Some, slice_get}
use Rattle.avs_model.specs.declared.entry.Entry.{Entry}
use Rattle.avs_model.specs.declared.entry.EntryKind.TheVariants.{Write}
use Rattle.avs_mirrors.specs.Entries.{Images, IsInside, a_mark, after_entry, is_mark}
use Rattle.avs_mirrors.specs.Half.{Sets, HalfState, is_marked, is_sending, is_receiving, knows_mark}
use Rattle.avs_mirrors.specs.Pair.{Session, PairState}

-- the half that sends never receives, and the other way round
pub record HasRoles (p : PairState) : Type 0 where
  pub source : is_receiving p.source ≡ false
  pub target : is_sending p.target ≡ false

-- an entry that is no mark is of a set of the session, has a block or more, and lies inside that set's volume
pub record IsOf (sets : Sets) (images : Images) (e : Entry) : Type 0 where
  pub kind : is_mark e.kind ≡ false
  pub set_there : sets e.set ≡ true
  pub some : 0 < length e.bytes
  pub inside : IsInside images e

abbrev pub IsFitting : Sets → Images → Entry → Type 0
IsFitting sets images e = (e ≡ a_mark) ⊎ IsOf sets images e

pub record AreFitting (s : Session) (images : Images) : Type 0 where
  pub each : (j : ℕ) (e : Entry) → slice_get s.order j ≡ Some e → IsFitting s.sets images e

-- a half that sends: its number, places and sets are the session's, its sets have contents, and the mark is known from replicating on
pub record SendsIn (x : HalfState) (s : Session) : Type 0 where
  pub number : (x.number ≡ s.number) × (0 < x.number)
  pub places : (x.last ≡ length s.order) × (x.known ≤ x.last) × (x.taken ≤ x.last)
  pub sets : (set : ℕ) → (x.on set ≡ s.sets set) × (x.here set ≡ s.sets set)
  pub contents : (set : ℕ) → s.sets set ≡ true → x.contents set ≡ true
  pub synced : is_marked x.state ≡ true → (0 < s.mark) × (s.mark ≤ x.known)
  pub entries : AreFitting s x.images

-- a half that receives: its number and sets are the session's, it is replicating and has contents exactly from the mark on
pub record ReceivesIn (y : HalfState) (s : Session) : Type 0 where
  pub number : (y.number ≡ s.number) × (0 < y.number)
  pub applied : y.applied ≤ length s.order
  pub sets : (set : ℕ) → (y.on set ≡ s.sets set) × (y.here set ≡ s.sets set)
  pub synced : is_marked y.state ≡ knows_mark s.mark y.applied
  pub contents : (set : ℕ) → s.sets set ≡ true → y.contents set ≡ knows_mark s.mark y.applied
  pub kept : (set : ℕ) → s.sets set ≡ true → y.kept set ≡ true
  pub entries : AreFitting s y.images

pub record InSession (p : PairState) : Type 0 where
  pub roles : HasRoles p
  pub sends : is_sending p.source ≡ true → SendsIn p.source p.session
  pub receives : is_receiving p.target ≡ true → ReceivesIn p.target p.session

-- behind the mark stand writes alone, and a mark stands at its place and nowhere else
pub record HasMark (s : Session) : Type 0 where
  pub low : s.mark ≤ length s.order
  pub behind : 0 < s.mark → (j : ℕ) (e : Entry) → s.mark ≤ j → slice_get s.order j ≡ Some e → e.kind ≡ Write
  pub alone : (j : ℕ) (e : Entry) → slice_get s.order j ≡ Some e → is_mark e.kind ≡ (j + 1 == s.mark)

-- what a half does once more at a recovery changes no image: the last place applied, and the last that was given
pub record IsSettled (p : PairState) : Type 0 where
  pub applied : is_receiving p.target ≡ true → (j : ℕ) (e : Entry) → j + 1 ≡ p.target.applied → slice_get p.session.order j ≡ Some e
      → (set : ℕ) → after_entry p.target.images e set ≡ p.target.images set
  pub given : is_sending p.source ≡ true → (j : ℕ) (e : Entry) → j + 1 ≡ p.source.last → slice_get p.session.order j ≡ Some e
      → (set : ℕ) → after_entry p.source.images e set ≡ p.source.images set
