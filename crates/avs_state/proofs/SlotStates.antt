-- What the bytes of a slot say that stand for what is said of a set.
use Rattle.std.proofs.Common.{◌≡◌, ℕ, ◌+◌, Bool, true, false, refl, sym, ◌∙◌, ap}
use Rattle.std.specs.Prelude.{if◌then◌else◌}
use Rattle.avs_code.specs.declared.slot_table.Slot.{Slot}
use Rattle.avs_model.specs.ShadowSets.{Standing, Online, Offline, Exported}
use Rattle.avs_model.specs.declared.shadow.Kind.{Kind}
use Rattle.avs_sets.specs.Says.{SlotSays}
use Rattle.avs_state.specs.Saying.{slot_says, said_of, kind_by, standing_of}
use Rattle.avs_state.specs.declared.slot_states.Standing.{Standing as StandingSaid}
use Rattle.avs_state.specs.declared.slot_states.Standing.TheVariants as said
use Rattle.avs_state.specs.declared.slot_states.SlotState.{SlotState}

abbrev bytes : ℕ → ℕ → ℕ → ℕ → ℕ → Slot
bytes flags kind need slots stamp = record { flags = flags; kind = kind; need = need; slots = slots; stamp = stamp }

abbrev says : Bool → Bool → Standing → Kind → SlotSays
says area_b stopped standing kind = record { enabled = true; area_b = area_b; stopped = stopped; standing = standing; kind = kind }

online : (a s : Bool) (kind : ℕ) → slot_says (bytes (1 + (if a then 2 else 0) + (if s then 4 else 0) + 0) kind 0 0 0) ≡ says a s Online (kind_by kind)
online false false kind = refl
online false true kind = refl
online true false kind = refl
online true true kind = refl

offline : (a s : Bool) (kind need slots : ℕ) → slot_says (bytes (1 + (if a then 2 else 0) + (if s then 4 else 0) + 8) kind need slots 0) ≡ says a s (Offline need slots) (kind_by kind)
offline false false kind need slots = refl
offline false true kind need slots = refl
offline true false kind need slots = refl
offline true true kind need slots = refl

exported : (a s : Bool) (kind stamp : ℕ) → slot_says (bytes (1 + (if a then 2 else 0) + (if s then 4 else 0) + 16) kind 0 0 stamp) ≡ says a s (Exported stamp) (kind_by kind)
exported false false kind stamp = refl
exported false true kind stamp = refl
exported true false kind stamp = refl
exported true true kind stamp = refl

-- the flags by their parts
flags_are : (a b c x y z : ℕ) → a ≡ x → b ≡ y → c ≡ z → 1 + a + b + c ≡ 1 + x + y + z
flags_are a b c x y z ea eb ec = ap (λ (n : ℕ). 1 + n + b + c) ea ∙ ap (λ (n : ℕ). 1 + x + n + c) eb ∙ ap (λ (n : ℕ). 1 + x + y + n) ec

-- what is said of a set by its kind and its standing
said_is : (state : SlotState) (kind : Kind) (standing : StandingSaid) → kind ≡ state.kind → state.standing ≡ standing → says state.area_b state.stopped (standing_of standing) kind ≡ said_of state
said_is state kind standing ek es =
    ap (λ (k : Kind). says state.area_b state.stopped (standing_of standing) k) ek
    ∙ ap (λ (t : StandingSaid). says state.area_b state.stopped (standing_of t) state.kind) (sym es)

module _ (state : SlotState) (area stopped standing kind : ℕ) (ea : area ≡ (if state.area_b then 2 else 0)) (et : stopped ≡ (if state.stopped then 4 else 0)) (ek : kind_by kind ≡ state.kind) where
  pub says_online : standing ≡ 0 → state.standing ≡ said.Online → slot_says (bytes (1 + area + stopped + standing) kind 0 0 0) ≡ said_of state
  says_online ef es =
      ap (λ (n : ℕ). slot_says (bytes n kind 0 0 0)) (flags_are area stopped standing _ _ _ ea et ef)
      ∙ online state.area_b state.stopped kind
      ∙ said_is state (kind_by kind) said.Online ek es

  pub says_offline : (need slots : ℕ) → standing ≡ 8 → state.standing ≡ said.Offline need slots → slot_says (bytes (1 + area + stopped + standing) kind need slots 0) ≡ said_of state
  says_offline need slots ef es =
      ap (λ (n : ℕ). slot_says (bytes n kind need slots 0)) (flags_are area stopped standing _ _ _ ea et ef)
      ∙ offline state.area_b state.stopped kind need slots
      ∙ said_is state (kind_by kind) (said.Offline need slots) ek es

  pub says_exported : (stamp : ℕ) → standing ≡ 16 → state.standing ≡ said.Exported stamp → slot_says (bytes (1 + area + stopped + standing) kind 0 0 stamp) ≡ said_of state
  says_exported stamp ef es =
      ap (λ (n : ℕ). slot_says (bytes n kind 0 0 stamp)) (flags_are area stopped standing _ _ _ ea et ef)
      ∙ exported state.area_b state.stopped kind stamp
      ∙ said_is state (kind_by kind) (said.Exported stamp) ek es
