-- Commands of one set by which no area turns: copying stops, the shadow is given away, and the set is disabled.
use Rattle.std.proofs.Common.{◌≡◌, ◌≢◌, ◌⊎◌, inl, inr, ℕ, suc, ◌/◌, ◌<◌, Bool, true, false, cond, eqb, ◌&&◌, Option, None, Some, List, [], ◌∷◌, length, get_or, Result, ◌∙◌, sym, refl, ap, subst, arith}
use Rattle.std.specs.List.{filter_map}
use Rattle.std.specs.Option.{option_map}
use Rattle.std.proofs.lemmas.Bool.{cases_eq, eq-eqb, ne_eqb}
use Rattle.avs_seg.specs.Image.{Image, Block, block_at}
use Rattle.avs_dev.specs.Seen.{Seen, shown}
use Rattle.avs_dev.proofs.Going.{shown_told}
use Rattle.avs_model.specs.ShadowSets.{is_online, is_offline, ShadowState}
use Rattle.avs_model.specs.GroupStates.{next_sequence}
use Rattle.avs_model.specs.GroupStages.{Change, Disabled, Stops, Exported, change_of, offline_first, is_to_master, changed_by, new_set, committed, Commit, PutNote}
use Rattle.avs_sets.specs.Says.{SlotSays, BlockSays}
use Rattle.avs_sets.specs.Sets.{SetSeen, ChunkMap, shadow_disk, disk_of, read_from, IsAlike}
use Rattle.avs_sets.specs.Meaning.{GroupSeen, set_of, disk_in, image_in, over_image, slot_of, is_enabled, standing_of, chunks_by, read, is_back, pick, picked, volume_by, behind_of, state_of, set_by, group_by}
use Rattle.avs_sets.specs.Whole.{IsApart, AreSlotsApart, IsWholeSet, AreWhole, IsWhole, IsStep, IsInStep, IsKept}
use Rattle.avs_sets.specs.Goes.{Goes, Commits}
use Rattle.avs_sets.specs.Commands.{IsNext, KeepsOthers, Aborts, Exports, Disables}
use Rattle.avs_sets.proofs.Lift.{same_tabulate, none_back}
use Rattle.avs_sets.proofs.Changes.{Owed, makes}
use Rattle.avs_sets.proofs.Commits.{commit_goes}
use Rattle.avs_sets.proofs.Sources.{before, as_it_is, image_as_it_is}

never : true ≡ false → ⊥
never e = cc

-- ---- two blocks by which a set is read alike

module _ (says block : BlockSays) where
  -- of a set that the second block enables, which the first does too: the same area is live, the same kind is said, and it is offline or
  -- online only where it was
  pub record Like (t : SetSeen) : Type 0 where
    pub live : is_enabled block t ≡ true → is_enabled says t ≡ true
    pub chunks : is_enabled block t ≡ true → chunks_by block t ≡ chunks_by says t
    pub kind : is_enabled block t ≡ true → (slot_of block t).kind ≡ (slot_of says t).kind
    pub on : is_enabled block t ≡ true → is_offline (standing_of block t) ≡ false → is_offline (standing_of says t) ≡ false
    pub off : is_enabled block t ≡ true → is_offline (standing_of block t) ≡ true → is_offline (standing_of says t) ≡ true
    pub online : is_enabled block t ≡ true → is_online (standing_of block t) ≡ true → is_online (standing_of says t) ≡ true

  pub like_same : (t : SetSeen) → slot_of block t ≡ slot_of says t → Like t
  like_same t same = record {
    live = λ l. ap (λ (x : SlotSays). x.enabled) (sym same) ∙ l;
    chunks = λ l. ap (λ (x : SlotSays). t.area x.area_b) same;
    kind = λ l. ap (λ (x : SlotSays). x.kind) same;
    on = λ l is. ap (λ (x : SlotSays). is_offline x.standing) (sym same) ∙ is;
    off = λ l is. ap (λ (x : SlotSays). is_offline x.standing) (sym same) ∙ is;
    online = λ l is. ap (λ (x : SlotSays). is_online x.standing) (sym same) ∙ is;
  }

  pub whole_set_like : (V O : List (Option Seen)) (t : SetSeen) → Like t → IsWholeSet says V O t → IsWholeSet block V O t
  whole_set_like V O t like old = record {
    shadow = old.shadow;
    bitmap = old.bitmap;
    kind = λ l. like.kind l ∙ old.kind (like.live l);
    off = λ l is. old.off (like.live l) (like.off l is);
    placed = λ l. record { each = subst (λ (c : ChunkMap). (a b : ℕ) → a ≢ b → c.state a ≢ 0 → c.state b ≢ 0 → c.place a ≢ c.place b) (sym (like.chunks l)) (old.placed (like.live l)).each };
    alike = λ l is. subst (λ (c : ChunkMap). IsAlike (read_from c t.size.blocks (shown (shadow_disk t)) (over_image O t.over)) (image_in V t.master)) (sym (like.chunks l)) (old.alike (like.live l) (like.online l is));
  }

  pub apart_like : (s t : SetSeen) → Like s → Like t → IsApart says s t → IsApart block s t
  apart_like s t a b old = record {
    splits = λ l m on same c lt three. ap (λ (x : ChunkMap). x.state c) (b.chunks m) ∙ old.splits (a.live l) (b.live m) (b.on m on) same c lt (ap (λ (x : ChunkMap). x.state c) (sym (a.chunks l)) ∙ three);
    alone = λ l m same c lt three e. old.alone (a.live l) (b.live m) same c lt (ap (λ (x : ChunkMap). x.state c) (sym (a.chunks l)) ∙ three) (ap (λ (x : ChunkMap). x.state c) (sym (b.chunks m)) ∙ e);
  }

  pub slots_like : (s t : SetSeen) → Like s → Like t → AreSlotsApart says s t → AreSlotsApart block s t
  slots_like s t a b old = record {
    each = λ l m same c d slot some at other there. old.each (a.live l) (b.live m) same c d slot
        (λ e. some (ap (λ (x : ChunkMap). x.state c) (a.chunks l) ∙ e)) (ap (λ (x : ChunkMap). x.place c) (sym (a.chunks l)) ∙ at)
        (λ e. other (ap (λ (x : ChunkMap). x.state d) (b.chunks m) ∙ e)) (ap (λ (x : ChunkMap). x.place d) (sym (b.chunks m)) ∙ there);
  }

  pub whole_like : (V O : List (Option Seen)) (S : List SetSeen) → AreWhole says V O S → ((k : ℕ) → k < length S → Like (set_of S k)) → AreWhole block V O S
  whole_like V O S w like = record {
    volumes_told = w.volumes_told;
    overs_told = w.overs_told;
    each = λ k lt. whole_set_like V O (set_of S k) (like k lt) (w.each k lt);
    apart = λ j k lj lk ne. apart_like (set_of S j) (set_of S k) (like j lj) (like k lk) (w.apart j k lj lk ne);
    slots_apart = λ j k lj lk ne. slots_like (set_of S j) (set_of S k) (like j lj) (like k lk) (w.slots_apart j k lj lk ne);
  }

  -- of the others the slot is said as before, and one set is whole and apart from them
  pub whole_one : (V O : List (Option Seen)) (S : List SetSeen) (k : ℕ) → k < length S → AreWhole says V O S → KeepsOthers says block S k → IsWholeSet block V O (set_of S k)
      → ((j : ℕ) → j < length S → j ≢ k → IsApart block (set_of S k) (set_of S j)) → ((j : ℕ) → j < length S → j ≢ k → IsApart block (set_of S j) (set_of S k))
      → ((j : ℕ) → j < length S → j ≢ k → AreSlotsApart block (set_of S k) (set_of S j)) → AreWhole block V O S
  whole_one V O S k lt w others own from to slots = record {
    volumes_told = w.volumes_told;
    overs_told = w.overs_told;
    each = λ j lj. elim (cases_eq j k) [
      | inl is ↦ subst (λ (x : ℕ). IsWholeSet block V O (set_of S x)) (sym is) own
      | inr ne ↦ whole_set_like V O (set_of S j) (like_same (set_of S j) (others.each j lj ne)) (w.each j lj)
    ];
    apart = λ i j li lj ne. elim (cases_eq i k) [
      | inl is ↦ subst (λ (x : ℕ). IsApart block (set_of S x) (set_of S j)) (sym is) (from j lj (λ e. ne (is ∙ sym e)))
      | inr ni ↦ elim (cases_eq j k) [
        | inl is ↦ subst (λ (x : ℕ). IsApart block (set_of S i) (set_of S x)) (sym is) (to i li ni)
        | inr nj ↦ apart_like (set_of S i) (set_of S j) (like_same (set_of S i) (others.each i li ni)) (like_same (set_of S j) (others.each j lj nj)) (w.apart i j li lj ne)
      ]
    ];
    slots_apart = λ i j li lj ne. elim (cases_eq i k) [
      | inl is ↦ subst (λ (x : ℕ). AreSlotsApart block (set_of S x) (set_of S j)) (sym is) (slots j lj (λ e. ne (is ∙ sym e)))
      | inr ni ↦ elim (cases_eq j k) [
        | inl is ↦ subst (λ (x : ℕ). AreSlotsApart block (set_of S i) (set_of S x)) (sym is) (turned (set_of S k) (set_of S i) (slots i li ni))
        | inr nj ↦ slots_like (set_of S i) (set_of S j) (like_same (set_of S i) (others.each i li ni)) (like_same (set_of S j) (others.each j lj nj)) (w.slots_apart i j li lj ne)
      ]
    ];
  }
    where
      turned : (s t : SetSeen) → AreSlotsApart block s t → AreSlotsApart block t s
      turned s t a = record { each = λ lt' ls same c d slot some at other there. a.each ls lt' (sym same) d c slot other there some at }

  -- ---- the block that is picked

  -- a set gives the same, or nothing by both blocks
  abbrev pub GivesSame : ℕ → ℕ → SetSeen → Type 0
  GivesSame v i t = ((is_enabled block t ≡ is_enabled says t) × (chunks_by block t ≡ chunks_by says t)) ⊎ ((is_back block v i t ≡ false) × (is_back says v i t ≡ false))

  pub pick_same : (O : List (Option Seen)) (S : List SetSeen) (v i : ℕ) (d : Block) → ((j : ℕ) → j < length S → GivesSame v i (set_of S j)) → pick block O S v i d ≡ pick says O S v i d
  pick_same O [] v i d same = refl
  pick_same O (t ∷ S) v i d same =
      let rest = pick_same O S v i d (λ j l. same (suc j) (omega (arith, l))) in
      elim (same 0 (omega arith)) [
        | inl (live, chunks) ↦ λ p. cond ((live p) && (eqb t.master v && eqb ((chunks p).state (i / 64)) 3))
            ((read_from (chunks p) t.size.blocks (shown (shadow_disk t)) (over_image O t.over)).stands i) (rest p)
        | inr (now, was) ↦ ap (λ (b : Bool). cond b ((read block O t).stands i) (pick block O S v i d)) now ∙ rest ∙ sym (ap (λ (b : Bool). cond b ((read says O t).stands i) (pick says O S v i d)) was)
      ]

  pub volume_like : (V O : List (Option Seen)) (S : List SetSeen) (v : ℕ) → ((i : ℕ) → i < length (image_in V v) → (j : ℕ) → j < length S → GivesSame v i (set_of S j)) → volume_by block V O S v ≡ volume_by says V O S v
  volume_like V O S v same = go (get_or V v None) refl
    where
      go : (o : Option Seen) → get_or V v None ≡ o → option_map (λ disk. picked block O S v (shown disk)) o ≡ option_map (λ disk. picked says O S v (shown disk)) o
      go None is = refl
      go (Some disk) is = ap (λ (img : Image). Some img) (same_tabulate (length (shown disk)) (length (shown disk)) _ _ refl
          (λ i l. pick_same O S v i (block_at (shown disk) i) (same i (subst (λ (o : Option Seen). i < length (shown (disk_of o))) (sym is) l))))

-- ---- one set is changed

-- the changes of a command of one set
abbrev pub only_change : ℕ → Change → List (ℕ × Change)
only_change slot change = (slot, change) ∷ []

pub change_own : (slot : ℕ) (c : Change) → change_of (only_change slot c) slot ≡ Some c
change_own slot c = ap (λ (b : Bool). option_map (λ (one : ℕ × Change). one.1) (cond b (Some (slot, c)) None)) (eq-eqb slot slot refl)

pub change_other : (slot at : ℕ) (c : Change) → slot ≢ at → change_of (only_change slot c) at ≡ None
change_other slot at c ne = ap (λ (b : Bool). option_map (λ (one : ℕ × Change). one.1) (cond b (Some (slot, c)) None)) (ne_eqb slot at ne)

module _ (says block : BlockSays) (V O : List (Option Seen)) (S : List SetSeen) (k : ℕ) (lt : k < length S) (others : KeepsOthers says block S k)
    (distinct : (j : ℕ) → j < length S → (set_of S j).slot ≡ (set_of S k).slot → j ≡ k) (c : Change) (plain : is_to_master (Some c) ≡ false) where
  abbrev changes : List (ℕ × Change)
  changes = only_change (set_of S k).slot c

  pub no_master : (j : ℕ) → j < length S → is_enabled says (set_of S j) ≡ true → is_to_master (change_of changes (set_of S j).slot) ≡ false
  no_master j lj live = elim (cases_eq (set_of S k).slot (set_of S j).slot) [
    | inl same ↦ ap (λ (n : ℕ). is_to_master (change_of changes n)) (sym same) ∙ ap (λ (x : Option Change). is_to_master x) (change_own (set_of S k).slot c) ∙ plain
    | inr ne ↦ ap (λ (x : Option Change). is_to_master x) (change_other (set_of S k).slot (set_of S j).slot c ne)
  ]

  abbrev then_by : Option Change → ShadowState → Option ShadowState
  then_by change set = changed_by changes (before says V O S changes) (change_of changes (offline_first change set).slot) (offline_first change set)

  -- a set, by what its slot says
  abbrev state_at : SetSeen → SlotSays → ShadowState
  state_at t slot = state_of t slot (read_from (t.area slot.area_b) t.size.blocks (shown (shadow_disk t)) (over_image O t.over)) (image_in V t.master) (behind_of t)

  pub other_set : (j : ℕ) → j < length S → j ≢ k → then_by (change_of changes (set_of S j).slot) (set_by says V O (set_of S j)) ≡ Some (set_by block V O (set_of S j))
  other_set j lj ne =
      let none = change_other (set_of S k).slot (set_of S j).slot c (λ e. ne (distinct j lj (sym e))) in
      ap (λ (x : Option Change). then_by x (set_by says V O (set_of S j))) none
      ∙ ap (λ (x : Option Change). changed_by changes (before says V O S changes) x (set_by says V O (set_of S j))) none
      ∙ ap (λ (set : ShadowState). Some set) (as_it_is says V O S changes no_master (set_by says V O (set_of S j)))
      ∙ ap (λ (x : SlotSays). Some (state_at (set_of S j) x)) (sym (others.each j lj ne))

  own_set : offline_first (Some c) (set_by says V O (set_of S k)) ≡ set_by says V O (set_of S k)
      → then_by (change_of changes (set_of S k).slot) (set_by says V O (set_of S k)) ≡ changed_by changes (before says V O S changes) (Some c) (set_by says V O (set_of S k))
  own_set first =
      ap (λ (x : Option Change). then_by x (set_by says V O (set_of S k))) (change_own (set_of S k).slot c)
      ∙ ap (λ (set : ShadowState). changed_by changes (before says V O S changes) (change_of changes set.slot) set) first
      ∙ ap (λ (x : Option Change). changed_by changes (before says V O S changes) x (set_by says V O (set_of S k))) (change_own (set_of S k).slot c)

  pub other_enabled : (j : ℕ) → j < length S → j ≢ k → is_enabled block (set_of S j) ≡ is_enabled says (set_of S j)
  other_enabled j lj ne = ap (λ (x : SlotSays). x.enabled) (others.each j lj ne)

  pub other_gives : (v i j : ℕ) → j < length S → j ≢ k → GivesSame says block v i (set_of S j)
  other_gives v i j lj ne = inl (other_enabled j lj ne, ap (λ (x : SlotSays). (set_of S j).area x.area_b) (others.each j lj ne))

  -- What a command owes of the set that it changes: what it becomes, or that it goes; and that it gives its master the same blocks.
  pub record OwesSet : Type 0 where
    pub first : offline_first (Some c) (set_by says V O (set_of S k)) ≡ set_by says V O (set_of S k)
    pub live : is_enabled says (set_of S k) ≡ true
    pub stays : is_enabled block (set_of S k) ≡ true → changed_by changes (before says V O S changes) (Some c) (set_by says V O (set_of S k)) ≡ Some (set_by block V O (set_of S k))
    pub goes : is_enabled block (set_of S k) ≡ false → changed_by changes (before says V O S changes) (Some c) (set_by says V O (set_of S k)) ≡ None
    pub gives : (i : ℕ) → i < length (image_in V (set_of S k).master) → GivesSame says block (set_of S k).master i (set_of S k)
    pub none_new : filter_map (λ one. new_set (before says V O S changes) one) changes ≡ []

  abbrev first_by : ShadowState → ShadowState
  first_by set = offline_first (change_of changes set.slot) set

  abbrev changed : ShadowState → Option ShadowState
  changed set = changed_by changes (before says V O S changes) (change_of changes set.slot) set

  abbrev OwedAt : ℕ → Type 0
  OwedAt j = Owed (λ t. is_enabled says t) (λ t. is_enabled block t) (λ t. set_by says V O t) (λ t. set_by block V O t) first_by changed (set_of S j)

  owed : OwesSet → (j : ℕ) → j < length S → OwedAt j
  owed owes j lj = elim (cases_eq j k) [
    | inl is ↦ subst (λ (x : ℕ). OwedAt x) (sym is) own
    | inr ne ↦ record {
      stays = λ was now. other_set j lj ne;
      goes = λ was now. absurd (never (sym was ∙ sym (other_enabled j lj ne) ∙ now));
      comes = λ was. other_enabled j lj ne ∙ was;
    }
  ]
    where
      own : OwedAt k
      own = record {
        stays = λ was now. own_set owes.first ∙ owes.stays now;
        goes = λ was now. own_set owes.first ∙ owes.goes now;
        comes = λ was. absurd (never (sym owes.live ∙ was));
      }

  gives_own : OwesSet → (v i : ℕ) → i < length (image_in V v) → GivesSame says block v i (set_of S k)
  gives_own owes v i li = elim (cases_eq (set_of S k).master v) [
    | inl same ↦ subst (λ (x : ℕ). GivesSame says block x i (set_of S k)) same (owes.gives i (subst (λ (x : ℕ). i < length (image_in V x)) (sym same) li))
    | inr other ↦ inr (none_back block (set_of S k) v i (λ live is three. other is), none_back says (set_of S k) v i (λ live is three. other is))
  ]

  gives : OwesSet → (v i : ℕ) → i < length (image_in V v) → (j : ℕ) → j < length S → GivesSame says block v i (set_of S j)
  gives owes v i li j lj = elim (cases_eq j k) [
    | inr ne ↦ other_gives v i j lj ne
    | inl is ↦ subst (λ (x : ℕ). GivesSame says block v i (set_of S x)) (sym is) (gives_own owes v i li)
  ]

  pub single_makes : (note : Option (List ℕ)) → IsNext says block note → OwesSet → group_by block V O S ≡ committed (group_by says V O S) changes note
  single_makes note next owes = makes says block V O S changes note (record {
    note_is = next.note;
    sequence_is = next.sequence;
    none_new = owes.none_new;
    each = owed owes;
    images = λ v l. volume_like says block V O S v (gives owes v) ∙ sym (image_as_it_is says V O S changes no_master v (volume_by says V O S v));
  })

-- ---- the calls

-- the memory of a set is in step with a block that enables no other set and turns no area
pub step_like : (says block : BlockSays) (t : SetSeen) → (is_enabled block t ≡ true → is_enabled says t ≡ true) → (is_enabled block t ≡ true → (slot_of block t).area_b ≡ (slot_of says t).area_b) → IsStep says t → IsStep block t
step_like says block t live area old = record { area = λ l. old.area (live l) ∙ sym (area l); chunks = λ l. old.chunks (live l) }

module _ (g : GroupSeen) (inv : IsKept g.volumes g.overs g.sets) (k : ℕ) (lt : k < length g.sets) (block : BlockSays) {T E : Type 0} (r : Result T E) (new : GroupSeen) (cm : Commits g block r new)
    (next : IsNext g.memory block None) (others : KeepsOthers g.memory block g.sets k) where
  next_disk : IsInStep g → IsNext g.says block None
  next_disk i = subst (λ (b : BlockSays). IsNext b block None) i.block next

  others_disk : IsInStep g → KeepsOthers g.says block g.sets k
  others_disk i = subst (λ (b : BlockSays). KeepsOthers b block g.sets k) i.block others

  step_disk : IsInStep g → (j : ℕ) → j < length g.sets → IsStep g.says (set_of g.sets j)
  step_disk i j lj = subst (λ (b : BlockSays). IsStep b (set_of g.sets j)) i.block (i.each j lj)

  distinct : (j : ℕ) → j < length g.sets → (set_of g.sets j).slot ≡ (set_of g.sets k).slot → j ≡ k
  distinct j lj same = inv.distinct j k lj lt same

  likes : IsInStep g → Like g.says block (set_of g.sets k) → (j : ℕ) → j < length g.sets → Like g.says block (set_of g.sets j)
  likes i own j lj = elim (cases_eq j k) [
    | inl is ↦ subst (λ (x : ℕ). Like g.says block (set_of g.sets x)) (sym is) own
    | inr ne ↦ like_same g.says block (set_of g.sets j) ((others_disk i).each j lj ne)
  ]

  steps : IsInStep g → IsStep block (set_of g.sets k) → (j : ℕ) → j < length g.sets → IsStep block (set_of g.sets j)
  steps i own j lj = elim (cases_eq j k) [
    | inl is ↦ subst (λ (x : ℕ). IsStep block (set_of g.sets x)) (sym is) own
    | inr ne ↦
        let same = (others_disk i).each j lj ne in
        step_like g.says block (set_of g.sets j) (λ l. ap (λ (x : SlotSays). x.enabled) (sym same) ∙ l) (λ l. ap (λ (x : SlotSays). x.area_b) same) (step_disk i j lj)
  ]

  abbrev state_here : SetSeen → SlotSays → ShadowState
  state_here t slot = state_of t slot (read_from (t.area slot.area_b) t.size.blocks (shown (shadow_disk t)) (over_image g.overs t.over)) (image_in g.volumes t.master) (behind_of t)

  -- copying stops
  module _ (a : Aborts g.memory block (set_of g.sets k)) where
    abort_disk : IsInStep g → Aborts g.says block (set_of g.sets k)
    abort_disk i = subst (λ (b : BlockSays). Aborts b block (set_of g.sets k)) i.block a

    pub abort_goes : Goes g (Commit (only_change (set_of g.sets k).slot Stops) None ∷ []) r new
    abort_goes = commit_goes g block (Commit (only_change (set_of g.sets k).slot Stops) None) r new cm
        (λ w i. let d = abort_disk i in single_makes g.says block g.volumes g.overs g.sets k lt (others_disk i) distinct Stops refl None (next_disk i) (record {
          first = refl;
          live = d.live;
          stays = λ l. ap (λ (x : SlotSays). Some (state_here (set_of g.sets k) x)) (sym d.slot);
          goes = λ l. absurd (never (sym (ap (λ (x : SlotSays). x.enabled) d.slot ∙ d.live) ∙ l));
          gives = λ j lj. inl (ap (λ (x : SlotSays). x.enabled) d.slot, ap (λ (x : SlotSays). (set_of g.sets k).area x.area_b) d.slot);
          none_new = refl;
        }))
        (λ w i. let d = abort_disk i in whole_like g.says block g.volumes g.overs g.sets w.disks (likes i (record {
          live = λ l. d.live;
          chunks = λ l. ap (λ (x : SlotSays). (set_of g.sets k).area x.area_b) d.slot;
          kind = λ l. ap (λ (x : SlotSays). x.kind) d.slot;
          on = λ l is. ap (λ (x : SlotSays). is_offline x.standing) (sym d.slot) ∙ is;
          off = λ l is. ap (λ (x : SlotSays). is_offline x.standing) (sym d.slot) ∙ is;
          online = λ l is. ap (λ (x : SlotSays). is_online x.standing) (sym d.slot) ∙ is;
        })))
        (λ w i. let d = abort_disk i in steps i (step_like g.says block (set_of g.sets k) (λ l. d.live) (λ l. ap (λ (x : SlotSays). x.area_b) d.slot) (step_disk i k lt)))

  -- the shadow is given away
  module _ (stamp : ℕ) (a : Exports g.memory block (set_of g.sets k) stamp) where
    export_disk : IsInStep g → Exports g.says block (set_of g.sets k) stamp
    export_disk i = subst (λ (b : BlockSays). Exports b block (set_of g.sets k) stamp) i.block a

    pub export_goes : Goes g (Commit (only_change (set_of g.sets k).slot (Exported stamp)) None ∷ []) r new
    export_goes = commit_goes g block (Commit (only_change (set_of g.sets k).slot (Exported stamp)) None) r new cm
        (λ w i. let d = export_disk i in single_makes g.says block g.volumes g.overs g.sets k lt (others_disk i) distinct (Exported stamp) refl None (next_disk i) (record {
          first = refl;
          live = d.live;
          stays = λ l. ap (λ (x : SlotSays). Some (state_here (set_of g.sets k) x)) (sym d.slot);
          goes = λ l. absurd (never (sym (ap (λ (x : SlotSays). x.enabled) d.slot ∙ d.live) ∙ l));
          gives = λ j lj. inl (ap (λ (x : SlotSays). x.enabled) d.slot, ap (λ (x : SlotSays). (set_of g.sets k).area x.area_b) d.slot);
          none_new = refl;
        }))
        (λ w i. let d = export_disk i in whole_like g.says block g.volumes g.overs g.sets w.disks (likes i (record {
          live = λ l. d.live;
          chunks = λ l. ap (λ (x : SlotSays). (set_of g.sets k).area x.area_b) d.slot;
          kind = λ l. ap (λ (x : SlotSays). x.kind) d.slot;
          on = λ l is. d.here;
          off = λ l is. absurd (never (sym is ∙ ap (λ (x : SlotSays). is_offline x.standing) d.slot));
          online = λ l is. absurd (never (sym is ∙ ap (λ (x : SlotSays). is_online x.standing) d.slot));
        })))
        (λ w i. let d = export_disk i in steps i (step_like g.says block (set_of g.sets k) (λ l. d.live) (λ l. ap (λ (x : SlotSays). x.area_b) d.slot) (step_disk i k lt)))

  -- the set is there no more
  module _ (a : Disables g.memory block (set_of g.sets k)) where
    disable_disk : IsInStep g → Disables g.says block (set_of g.sets k)
    disable_disk i = subst (λ (b : BlockSays). Disables b block (set_of g.sets k)) i.block a

    pub disable_goes : Goes g (Commit (only_change (set_of g.sets k).slot Disabled) None ∷ []) r new
    disable_goes = commit_goes g block (Commit (only_change (set_of g.sets k).slot Disabled) None) r new cm
        (λ w i. let d = disable_disk i in single_makes g.says block g.volumes g.overs g.sets k lt (others_disk i) distinct Disabled refl None (next_disk i) (record {
          first = refl;
          live = d.live;
          stays = λ l. absurd (never (sym l ∙ d.gone));
          goes = λ l. refl;
          gives = λ j lj. inr (
            none_back block (set_of g.sets k) (set_of g.sets k).master j (λ live is three. never (sym live ∙ d.gone)),
            none_back g.says (set_of g.sets k) (set_of g.sets k).master j (λ live is three. d.none (j / 64) (omega (arith, lj, long w (set_of g.sets k).master, (inv.held k lt).blocks)) three),
          );
          none_new = refl;
        }))
        (λ w i. let d = disable_disk i in whole_like g.says block g.volumes g.overs g.sets w.disks (likes i (record {
          live = λ l. d.live;
          chunks = λ l. absurd (never (sym l ∙ d.gone));
          kind = λ l. absurd (never (sym l ∙ d.gone));
          on = λ l is. absurd (never (sym l ∙ d.gone));
          off = λ l is. absurd (never (sym l ∙ d.gone));
          online = λ l is. absurd (never (sym l ∙ d.gone));
        })))
        (λ w i. let d = disable_disk i in steps i (step_like g.says block (set_of g.sets k) (λ l. d.live) (λ l. absurd (never (sym l ∙ d.gone))) (step_disk i k lt)))
      where
        long : IsWhole g → (v : ℕ) → length (image_in g.volumes v) ≡ (disk_in g.volumes v).size
        long w v = ap (λ (img : Image). length img) (shown_told (disk_in g.volumes v) (w.disks.volumes_told v)) ∙ w.disks.volumes_told v

-- ---- the note

-- the block says another note, and else the same
pub note_goes : (g : GroupSeen) (note : List ℕ) (block : BlockSays) → block ≡ record g.memory { note = note; sequence = next_sequence g.memory.sequence }
    → {T E : Type 0} (r : Result T E) (new : GroupSeen) → Commits g block r new → Goes g (PutNote note ∷ []) r new
note_goes g note block is r new cm = commit_goes g block (PutNote note) r new cm
    (λ w i. ap (λ (b : BlockSays). group_by b g.volumes g.overs g.sets) (on_disk i))
    (λ w i. subst (λ (b : BlockSays). AreWhole b g.volumes g.overs g.sets) (sym (on_disk i)) (whole_like g.says (noted g.says) g.volumes g.overs g.sets w.disks (λ k lt. like_same g.says (noted g.says) (set_of g.sets k) refl)))
    (λ w i k lt. subst (λ (b : BlockSays). IsStep b (set_of g.sets k)) (sym (on_disk i))
    (step_like g.says (noted g.says) (set_of g.sets k) (λ l. l) (λ l. refl) (subst (λ (b : BlockSays). IsStep b (set_of g.sets k)) i.block (i.each k lt))))
  where
    noted : BlockSays → BlockSays
    noted b = record b { note = note; sequence = next_sequence b.sequence }

    on_disk : IsInStep g → block ≡ noted g.says
    on_disk i = is ∙ ap (λ (b : BlockSays). record b { note = note; sequence = next_sequence b.sequence }) i.block
