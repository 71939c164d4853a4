-- A sender begins a session.
use Rattle.std.specs.Prelude.{◌≡◌, ◌⊎◌, ℕ, ◌<◌, Bool, true, false, if◌then◌else◌, List, length, Result, Ok, Err}
use Rattle.avs_model.specs.declared.event.Host.{Host}
use Rattle.avs_model.specs.declared.event.Host.TheVariants.{P, S}
use Rattle.avs_model.specs.declared.answer.Refusal.{Refusal}
use Rattle.avs_model.specs.declared.answer.Refusal.TheVariants as refusal
use Rattle.avs_mirrors.specs.Due.{Keys}
use Rattle.avs_mirrors.specs.Half.{HalfState, Sender, Syncing, is_session, begun_with, with_bits}
use Rattle.avs_sync.specs.Session.{begin}
use Rattle.avs_sync.specs.declared.note.Note.{Note}
use Rattle.avs_halves.specs.SetBits.{SetBits, set_at}
use Rattle.avs_halves.specs.Changing.{every}
use Rattle.avs_sender.specs.Held.{SenderHalf, SenderHeld, SenderParts, SetPlaces, parts_of}
use Rattle.avs_halves.specs.Found.{is_filled}
use Rattle.avs_sender.specs.Meaning.{IsSenderInStep, found_again, found_of, sender_of}
use Rattle.avs_sender.specs.Going.{SenderStays, NoneFailed, OneFailed}
use Rattle.avs_sender.specs.Noting.{AreLists, in_lists}
use Rattle.avs_sender.specs.Refusing.{IsWrongState}

-- a sender on host s sends from there to host p
abbrev pub is_reverse : Host → Bool
is_reverse P = false
is_reverse S = true

-- a beginning: the number of its session, and the bits that it sets
pub record Beginning : Type 0 where
  pub number : ℕ
  pub keys : Keys

-- all bits, or those of the other half
abbrev pub begun_keys : Bool → List SetBits → List (List ℕ) → Keys
begun_keys full sets theirs = if full then every sets else in_lists theirs

abbrev pub beginning : ℕ → Bool → List SetBits → List (List ℕ) → Beginning
beginning number full sets theirs = record { number = number; keys = begun_keys full sets theirs }

-- of the other half's bits there is a list for each set, unless all are set
abbrev pub AreTheirs : Bool → List SetBits → List (List ℕ) → Type 0
AreTheirs full sets theirs = full ≡ false → AreLists sets theirs

-- every set has contents; or one has none
pub record AreFilled (sets : List SetBits) (empty : ℕ) : Type 0 where
  pub each : (set : ℕ) → set < length sets → is_filled empty (set_at sets set).slot ≡ true

pub record HasEmpty (sets : List SetBits) (empty : ℕ) : Type 0 where
  pub set : ℕ
  pub there : set < length sets
  pub none : is_filled empty (set_at sets set).slot ≡ false

abbrev pub TellsFilled : List SetBits → ℕ → Bool → Type 0
TellsFilled sets empty true = AreFilled sets empty
TellsFilled sets empty false = HasEmpty sets empty

-- the note of the session; and the half that is in it, where no place was given
abbrev pub begun_note : SenderHalf → ℕ → Note
begun_note h number = record { session = number; role = Sender; state = Syncing; empty = h.note.empty; reverse = is_reverse h.host; mark = 0 }

abbrev pub half_begun : SenderHalf → ℕ → List SetPlaces → SenderHalf
half_begun h number places = record h { places = places; note = begun_note h number; session = begin true number (is_reverse h.host) }

-- it may begin: it is in no session, and every set has contents
pub record MayBegin (old : SenderHeld) : Type 0 where
  pub away : is_session (sender_of old).state ≡ false
  pub contents : (set : ℕ) → set < length old.half.sets → (sender_of old).contents set ≡ true

-- the bits first, and then the note: it is in the session
pub record IsBegun (sound sound_new : Type 0) (old : SenderHeld) (b : Beginning) (new : SenderHeld) : Type 0 where
  pub may : MayBegin old
  pub stays : SenderStays sound old new
  pub spared : NoneFailed old new
  pub done : sound → sender_of new ≡ begun_with (sender_of old) b.keys b.number
  pub session : new.half.session ≡ begin true b.number (is_reverse old.half.host)
  pub note : new.half.note ≡ begun_note old.half b.number
  pub step : IsSenderInStep sound old → IsSenderInStep sound_new new

-- a load finds some of the bits, and no session; or all of them, and one that began the session and left it
pub record FindsPartNoted (p : SenderParts) (x : HalfState) (keys : Keys) : Type 0 where
  pub part : Keys
  pub within : (set seg : ℕ) → part set seg ≡ true → keys set seg ≡ true
  pub finds : found_again p ≡ found_of (with_bits x part)

abbrev pub FindsBegun : SenderParts → HalfState → Beginning → Type 0
FindsBegun p x b = FindsPartNoted p x b.keys ⊎ (found_again p ≡ found_of (begun_with x b.keys b.number))

pub record IsBeginStopped (sound : Type 0) (old : SenderHeld) (b : Beginning) (new : SenderHeld) : Type 0 where
  pub may : MayBegin old
  pub stays : SenderStays sound old new
  pub failed : OneFailed old new
  pub stopped : IsSenderInStep sound old → FindsBegun (parts_of new) (sender_of old) b

-- what is done of it where it may begin
abbrev pub Enters : {E : Type 0} → Type 0 → Type 0 → SenderHeld → Beginning → Result (Unit {0}) E → SenderHeld → Type 0
Enters sound sound_new old b (Ok u) new = IsBegun sound sound_new old b new
Enters sound sound_new old b (Err e) new = IsBeginStopped sound old b new

-- a set has no contents
pub record LacksContents (old : SenderHeld) (why : Refusal) (new : SenderHeld) : Type 0 where
  pub answer : why ≡ refusal.NoContents
  pub away : is_session (sender_of old).state ≡ false
  pub set : ℕ
  pub there : set < length old.half.sets
  pub none : (sender_of old).contents set ≡ false
  pub kept : new ≡ old

-- there was no memory for the places of the session
pub record HasNoMemory (old : SenderHeld) (why : Refusal) (new : SenderHeld) : Type 0 where
  pub answer : why ≡ refusal.NoMemory
  pub kept : new ≡ old

abbrev pub BeginRefused : SenderHeld → Refusal → SenderHeld → Type 0
BeginRefused old why new = IsWrongState old why new ⊎ (LacksContents old why new ⊎ HasNoMemory old why new)

abbrev pub Begins : Type 0 → Type 0 → SenderHeld → Beginning → Result (Unit {0}) Refusal → SenderHeld → Type 0
Begins sound sound_new old b (Ok u) new = IsBegun sound sound_new old b new
Begins sound sound_new old b (Err why) new = BeginRefused old why new ⊎ ((why ≡ refusal.Fault) × IsBeginStopped sound old b new)
