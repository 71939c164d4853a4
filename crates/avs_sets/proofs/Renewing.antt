-- The shadows of some sets become their masters, by one commit: the staged states of these sets are live by the new block.
use Rattle.std.proofs.Common.{◌≡◌, ◌≢◌, ◌⊎◌, inl, inr, ℕ, suc, ◌/◌, ◌<◌, ◌≤◌, Bool, true, false, not, cond, eqb, ◌||◌, ◌&&◌, nat_lt, IsTrue, is_some, Option, None, Some, List, [], ◌∷◌, length, get_or, ◌∙◌, sym, refl, map, Result, OnOk, ap, subst, arith}
use Rattle.std.specs.List.{filter_map}
use Rattle.std.specs.Option.{option_map, unwrap_or}
use Rattle.std.proofs.Math.Path.{fun_ext}
use Rattle.std.proofs.lemmas.Bool.{cases_lt, cases_eq, eq-eqb, ne_eqb}
use Rattle.std.proofs.lemmas.Bool.Decides.{nat_tests}
use Rattle.std.proofs.lemmas.List.{get_or_past}
use Rattle.std.proofs.lemmas.List.FromFn.{get_or-map-range_with_len}
use Rattle.avs_seg.specs.Image.{Image, Block, block_at}
use Rattle.avs_dev.specs.Seen.{Seen, shown}
use Rattle.avs_dev.proofs.Going.{shown_told}
use Rattle.avs_model.specs.ShadowSets.{ChunkList, no_chunks, all_chunks, together, Standing, Online, Offline, Exported, is_online, is_offline, is_exported, is_compact, is_independent, left_at_update, turned_to_shadow, ShadowState}
use Rattle.avs_model.specs.GroupStates.{GroupState, volume_image}
use Rattle.avs_model.specs.GroupStages.{Change, ToShadow, change_of, offline_first, changed_by, is_to_master, new_set, committed, Commit}
use Rattle.avs_model.specs.declared.shadow.Kind.{Kind}
use Rattle.avs_model.specs.declared.shadow.Kind.TheVariants.{Ind, Dep, Compact}
use Rattle.avs_sets.specs.Says.{SlotSays, BlockSays}
use Rattle.avs_sets.specs.Sets.{SetSeen, ChunkPlace, chunks_of, shadow_disk, disk_of, block_in, read_from, shadow_block, IsAlike}
use Rattle.avs_sets.specs.Meaning.{GroupSeen, set_of, disk_in, image_in, over_image, slot_of, is_enabled, standing_of, chunks_by, read, is_back, pick, picked, volume_by, chunks_with, chunks_touched, lists_by, contents_by, shadow_over, behind_of, state_of, set_by, group_by}
use Rattle.avs_sets.specs.Whole.{IsWholeSet, AreWhole, IsHeld, IsWhole, IsStep, IsInStep, IsKept}
use Rattle.avs_sets.specs.Goes.{Goes, Commits}
use Rattle.avs_sets.specs.Commands.{IsNext, renewed, Renews}
use Rattle.avs_sets.proofs.Lift.{same_tabulate, pick_none, none_back}
use Rattle.avs_sets.proofs.Lifted.{some_is}
use Rattle.avs_sets.proofs.Changes.{makes}
use Rattle.avs_sets.proofs.Found.{forgotten}
use Rattle.avs_sets.proofs.Commits.{commit_turns}
use Rattle.avs_sets.proofs.Sources.{before, as_it_is, image_as_it_is}

never : true ≡ false → ⊥
never e = cc

-- ---- lists of chunks by a test of the state

pub within : (n : ℕ) (f g : ℕ → Bool) → ((c : ℕ) → c < n → f c ≡ g c) → ◌≡◌ {A = ChunkList} (λ c. nat_lt c n && f c) (λ c. nat_lt c n && g c)
within n f g same = fun_ext (λ c. elim (cases_lt c n) [
  | inl l ↦ ap (λ (b : Bool). nat_lt c n && b) (same c l)
  | inr le ↦ ap (λ (b : Bool). b && f c) (gone c n le) ∙ sym (ap (λ (b : Bool). b && g c) (gone c n le))
])
  where
    gone : (c n : ℕ) → n ≤ c → nat_lt c n ≡ false
    gone c n le = grind (arith, nat_tests)

pub none_of : (n : ℕ) → ◌≡◌ {A = ChunkList} (λ c. nat_lt c n && false) no_chunks
none_of n = fun_ext (λ c. no (nat_lt c n))
  where
    no : (b : Bool) → (b && false) ≡ false
    no true = refl
    no false = refl

-- ---- what becomes of a state

not_three : (n : ℕ) → n < 3 → n ≢ 3
not_three n lt e = omega (arith, lt, e)

abbrev to : Bool → Bool → ℕ → ℕ
to all dep n = cond (not dep || all) 0 (cond (eqb n 2) 0 n)

to_two : (n : ℕ) → (cond (eqb n 2) 0 n ≡ 0) ⊎ (cond (eqb n 2) 0 n ≡ n) × (n ≢ 2)
to_two n = elim (cases_eq n 2) [
  | inl two ↦ inl (ap (λ (b : Bool). cond b 0 n) (eq-eqb n 2 two))
  | inr ne ↦ inr (ap (λ (b : Bool). cond b 0 n) (ne_eqb n 2 ne), ne)
]

-- it is on the master alone, or it is what it was, of an independent set that is not copied whole
to_is : (all ind : Bool) (n : ℕ) → (to all ind n ≡ 0) ⊎ ((to all ind n ≡ n) × (n ≢ 2) × (ind ≡ true))
to_is all false n = inl refl
to_is true true n = inl refl
to_is false true n = elim (to_two n) [
  | inl z ↦ inl z
  | inr (same, ne) ↦ inr (same, ne, refl)
]

renewed_is : (whole : Bool) (kind : Kind) (n : ℕ) → (renewed whole kind n ≡ 0) ⊎ ((renewed whole kind n ≡ n) × (n ≢ 2) × (is_independent kind ≡ true))
renewed_is whole k n = to_is whole (is_independent k) n

never_two : (whole : Bool) (k : Kind) (n : ℕ) → renewed whole k n ≢ 2
never_two whole k n two = elim (renewed_is whole k n) [
  | inl z ↦ not_both _ z two
  | inr (same, ne, _) ↦ ne (sym same ∙ two)
]
  where
    not_both : (m : ℕ) → m ≡ 0 → m ≡ 2 → ⊥
    not_both m a b = omega (arith, a, b)

never_three : (whole : Bool) (k : Kind) (n : ℕ) → n < 3 → renewed whole k n ≢ 3
never_three whole k n lt three = elim (renewed_is whole k n) [
  | inl z ↦ not_both _ z three
  | inr (same, _, _) ↦ not_three n lt (sym same ∙ three)
]
  where
    not_both : (m : ℕ) → m ≡ 0 → m ≡ 3 → ⊥
    not_both m a b = omega (arith, a, b)

-- what has contents of its own then is the same on both, of an independent set
was_one : (whole : Bool) (k : Kind) (n : ℕ) → n < 3 → renewed whole k n ≢ 0 → (n ≡ 1) × (is_independent k ≡ true)
was_one whole k n lt some = elim (renewed_is whole k n) [
  | inl z ↦ absurd (some z)
  | inr (same, ne, ind) ↦ (one n lt ne (λ z. some (same ∙ z)), ind)
]
  where
    one : (n : ℕ) → n < 3 → n ≢ 2 → n ≢ 0 → n ≡ 1
    one n lt a b = omega (arith, lt, a, b)

left_test : (n : ℕ) → eqb (cond (eqb n 2) 0 n) 0 ≡ (eqb n 2 || eqb n 0)
left_test n = go (eqb n 2)
  where
    go : (b : Bool) → eqb (cond b 0 n) 0 ≡ (b || eqb n 0)
    go true = refl
    go false = refl

over_or : (a b c : Bool) → (a && (b || c)) ≡ ((a && b) || (a && c))
over_or true b c = refl
over_or false b c = refl

and_true : (a : Bool) → (a && true) ≡ a
and_true true = refl
and_true false = refl

-- ---- kinds and standings

pub not_compact : (k : Kind) → is_independent k ≡ true → is_compact k ≡ true → ⊥
not_compact Ind a b = never (sym b)
not_compact Dep a b = never (sym a)
not_compact Compact a b = never (sym a)

online_by : (standing : Standing) → is_exported standing ≡ false → is_offline standing ≡ false → is_online standing ≡ true
online_by Online a b = refl
online_by (Offline need slots) a b = absurd (never b)
online_by (Exported stamp) a b = absurd (never a)

shows_again : (standing : Standing) (old image behind : Image) → is_exported standing ≡ false → record (contents_by standing old behind) { image = image } ≡ record { image = image; behind = behind }
shows_again Online old image behind here = refl
shows_again (Offline need slots) old image behind here = refl
shows_again (Exported stamp) old image behind here = absurd (never here)

-- ---- the block that is picked, by two blocks of the group

abbrev pub SamePick : (says block : BlockSays) (v i : ℕ) (t : SetSeen) → Type 0
SamePick says block v i t = (slot_of block t ≡ slot_of says t) ⊎ ((is_back block v i t ≡ false) × (is_back says v i t ≡ false))

pub pick_by : (says block : BlockSays) (O : List (Option Seen)) (S : List SetSeen) (v i : ℕ) (d : Block) → ((j : ℕ) → j < length S → SamePick says block v i (set_of S j)) → pick block O S v i d ≡ pick says O S v i d
pick_by says block O [] v i d same = refl
pick_by says block O (t ∷ S) v i d same =
    let rest = pick_by says block O S v i d (λ j l. same (suc j) (omega (arith, l))) in
    elim (same 0 (omega arith)) [
      | inl slot ↦ λ p. cond ((slot p).enabled && (eqb t.master v && eqb ((t.area (slot p).area_b).state (i / 64)) 3))
          ((read_from (t.area (slot p).area_b) t.size.blocks (shown (shadow_disk t)) (over_image O t.over)).stands i) (rest p)
      | inr (now, was) ↦ ap (λ (b : Bool). cond b ((read block O t).stands i) (pick block O S v i d)) now ∙ rest ∙ sym (ap (λ (b : Bool). cond b ((read says O t).stands i) (pick says O S v i d)) was)
    ]

-- the disk of its master is there, with the blocks of the set
pub record Fits (V : List (Option Seen)) (s : SetSeen) : Type 0 where
  pub seat : IsTrue (is_some (get_or V s.master None))
  pub blocks : (disk_in V s.master).size ≡ s.size.blocks

-- ---- the sets

module _ (says block : BlockSays) (V O : List (Option Seen)) (S : List SetSeen) (changes : List (ℕ × Change)) (whole : Bool) where
  -- of a set nothing changes
  pub record Kept (t : SetSeen) : Type 0 where
    pub slot : slot_of block t ≡ slot_of says t
    pub change : change_of changes t.slot ≡ None

  -- a set whose shadow becomes its master, of which no chunk stands on a shadow alone
  pub record Renewed (t : SetSeen) : Type 0 where
    pub renews : Renews says block t whole
    pub change : change_of changes t.slot ≡ Some (ToShadow whole)
    pub low : (j : ℕ) → j < length S → is_enabled says (set_of S j) ≡ true → (set_of S j).master ≡ t.master → (c : ℕ) → c < chunks_of (set_of S j) → (chunks_by says (set_of S j)).state c < 3

  module _ (w : AreWhole says V O S) (fits : (k : ℕ) → k < length S → Fits V (set_of S k)) (which : (k : ℕ) → k < length S → Kept (set_of S k) ⊎ Renewed (set_of S k)) where
    long : (v : ℕ) → length (image_in V v) ≡ (disk_in V v).size
    long v = ap (λ (img : Image). length img) (shown_told (disk_in V v) (w.volumes_told v)) ∙ w.volumes_told v

    inside : (k : ℕ) → k < length S → (v i : ℕ) → (set_of S k).master ≡ v → i < length (image_in V v) → i < (set_of S k).size.blocks
    inside k lt v i is l = omega (arith, l, long v, ap (λ (x : ℕ). (disk_in V x).size) is, (fits k lt).blocks)

    -- ---- the volumes

    picks : (v i : ℕ) → i < length (image_in V v) → (d : Block) → pick block O S v i d ≡ pick says O S v i d
    picks v i l d = pick_by says block O S v i d (λ k lt. elim (which k lt) [
      | inl kept ↦ inl kept.slot
      | inr r ↦ inr (
        none_back block (set_of S k) v i (λ live is three.
            let c = inside k lt v i is l in
            never_three whole (set_of S k).kind _ (r.low k lt r.renews.live refl (i / 64) (omega (arith, c))) (sym (r.renews.states.states (i / 64) (omega (arith, c))) ∙ three)),
        none_back says (set_of S k) v i (λ live is three.
            let c = inside k lt v i is l in
            not_three _ (r.low k lt r.renews.live refl (i / 64) (omega (arith, c))) three),
      )
    ])

    volume_same : (v : ℕ) → volume_by block V O S v ≡ volume_by says V O S v
    volume_same v = go (get_or V v None) refl
      where
        go : (o : Option Seen) → get_or V v None ≡ o → option_map (λ disk. picked block O S v (shown disk)) o ≡ option_map (λ disk. picked says O S v (shown disk)) o
        go None is = refl
        go (Some disk) is = ap (λ (img : Image). Some img) (same_tabulate (length (shown disk)) (length (shown disk)) _ _ refl
            (λ i l. picks v i (subst (λ (o : Option Seen). i < length (shown (disk_of o))) (sym is) l) (block_at (shown disk) i)))

    -- ---- a set whose shadow becomes its master

    module _ (k : ℕ) (lt : k < length S) (r : Renewed (set_of S k)) where
      abbrev t : SetSeen
      t = set_of S k

      abbrev master : Image
      master = image_in V (set_of S k).master

      abbrev was : ℕ → ℕ
      was = (chunks_by says (set_of S k)).state

      abbrev now : ℕ → ℕ
      now = (chunks_by block (set_of S k)).state

      low_own : (c : ℕ) → c < chunks_of (set_of S k) → was c < 3
      low_own c l = r.low k lt r.renews.live refl c l

      was_online : is_independent (set_of S k).kind ≡ true → is_online (standing_of says (set_of S k)) ≡ true
      was_online ind = online_by (standing_of says (set_of S k)) r.renews.here (go (is_offline (standing_of says (set_of S k))) refl)
        where
          go : (b : Bool) → is_offline (standing_of says (set_of S k)) ≡ b → b ≡ false
          go true off = absurd (not_compact (set_of S k).kind ind ((w.each k lt).off r.renews.live off))
          go false on = refl

      block_is : (i : ℕ) → i < (set_of S k).size.blocks → shadow_block (read block O (set_of S k)) master i ≡ block_at master i
      block_is i l = elim (cases_eq (now (i / 64)) 0) [
        | inl z ↦ ap (λ (b : Bool). cond b (block_at master i) ((read block O (set_of S k)).stands i)) (eq-eqb _ 0 z)
        | inr ne ↦
            let c : i / 64 < chunks_of (set_of S k) = omega (arith, l) in
            let one = was_one whole (set_of S k).kind (was (i / 64)) (low_own (i / 64) c) (λ z. ne (r.renews.states.states (i / 64) c ∙ z)) in
            ap (λ (b : Bool). cond b (block_at master i) ((read block O (set_of S k)).stands i)) (ne_eqb _ 0 ne)
            ∙ ap (λ (q : ChunkPlace). block_in (shown (shadow_disk (set_of S k))) (over_image O (set_of S k).over) q i) (r.renews.places.each (i / 64) ne)
            ∙ ((w.each k lt).alike r.renews.live (was_online one.1)).same i l one.0
      ]

      plain : (i : ℕ) → i < length master → pick says O S (set_of S k).master i (block_at master i) ≡ block_at master i
      plain i l = pick_none says O S (set_of S k).master i (block_at master i) (λ j lj. none_back says (set_of S j) (set_of S k).master i (λ live is three.
          not_three _ (r.low j lj live is (i / 64) (omega (arith, inside j lj (set_of S k).master i is l))) three))

      there : (set_of S k).master < length V
      there = elim (cases_lt (set_of S k).master (length V)) [
        | inl l ↦ l
        | inr le ↦ absurd (no_disk (sym (ap (λ (o : Option Seen). is_some o) (get_or_past V (set_of S k).master None le)) ∙ (fits k lt).seat))
      ]
        where
          no_disk : false ≡ true → ⊥
          no_disk e = cc

      volume_is : volume_image (group_by says V O S) (set_of S k).master ≡ picked says O S (set_of S k).master master
      volume_is =
          ap (λ (o : Option Image). unwrap_or o []) (get_or-map-range_with_len (λ v. volume_by says V O S v) 0 (length V) (set_of S k).master (set_of S k).master None there (omega arith)
          ∙ ap (λ (o : Option Seen). option_map (λ disk. picked says O S (set_of S k).master (shown disk)) o) (some_is (get_or V (set_of S k).master None) (fits k lt).seat))

      long_own : (set_of S k).size.blocks ≡ length master
      long_own = sym (fits k lt).blocks ∙ sym (long (set_of S k).master)

      image_is : shadow_over (read block O (set_of S k)) master ≡ volume_image (group_by says V O S) (set_of S k).master
      image_is = same_tabulate _ _ _ _ long_own (λ i l. block_is i l ∙ sym (plain i (omega (arith, l, long_own)))) ∙ sym volume_is

      abbrev n : ℕ
      n = chunks_of (set_of S k)

      count : (q q' : ℕ → Bool) → ((m : ℕ) → m < 3 → q' (renewed whole (set_of S k).kind m) ≡ q m) → ◌≡◌ {A = ChunkList} (λ c. nat_lt c n && q' (now c)) (λ c. nat_lt c n && q (was c))
      count q q' same = within n (λ c. q' (now c)) (λ c. q (was c)) (λ c l. ap q' (r.renews.states.states c l) ∙ same (was c) (low_own c l))

      lists_are : lists_by (set_of S k).kind (set_of S k).size.blocks now (slot_of block (set_of S k)).stopped
          ≡ record (lists_by (set_of S k).kind (set_of S k).size.blocks was (slot_of says (set_of S k)).stopped) {
            touched = no_chunks;
            moved = no_chunks;
            left = left_at_update whole (set_by says V O (set_of S k));
            stopped = false;
          }
      lists_are = λ p. record {
        touched = touched (is_independent (set_of S k).kind) refl p;
        moved = (count (λ m. false) (λ m. eqb m 2) (λ m l. ne_eqb _ 2 (never_two whole (set_of S k).kind m)) ∙ none_of n) p;
        left = left (is_independent (set_of S k).kind) whole refl refl p;
        back = count (λ m. eqb m 3) (λ m. eqb m 3) (λ m l. ne_eqb _ 3 (never_three whole (set_of S k).kind m l) ∙ sym (ne_eqb m 3 (not_three m l))) p;
        stopped = r.renews.goes_on p;
      }
        where
          touched : (b : Bool) → is_independent (set_of S k).kind ≡ b → cond b no_chunks (chunks_touched (set_of S k).size.blocks now) ≡ no_chunks
          touched true is = refl
          touched false is = count (λ m. false) (λ m. not (eqb m 0)) (λ m l. ap (λ (b : Bool). not (eqb (to whole b m) 0)) is) ∙ none_of n

          left : (b e : Bool) → is_independent (set_of S k).kind ≡ b → whole ≡ e
              → cond b (chunks_with (set_of S k).size.blocks now 0) no_chunks
              ≡ cond (not b) no_chunks (cond e (all_chunks (set_of S k).size.blocks) (together (chunks_with (set_of S k).size.blocks was 2) (cond b (chunks_with (set_of S k).size.blocks was 0) no_chunks)))
          left false e is all = refl
          left true true is all = count (λ m. true) (λ m. eqb m 0) (λ m l. ap (λ (b : Bool). eqb (to b (is_independent (set_of S k).kind) m) 0) all ∙ ap (λ (b : Bool). eqb (to true b m) 0) is) ∙ fun_ext (λ c. and_true (nat_lt c n))
          left true false is all =
              count (λ m. eqb m 2 || eqb m 0) (λ m. eqb m 0) (λ m l. ap (λ (b : Bool). eqb (to b (is_independent (set_of S k).kind) m) 0) all ∙ ap (λ (b : Bool). eqb (to false b m) 0) is ∙ left_test m)
              ∙ fun_ext (λ c. over_or (nat_lt c n) (eqb (was c) 2) (eqb (was c) 0))

      set_is : set_by block V O (set_of S k) ≡ turned_to_shadow (volume_image (group_by says V O S) (set_of S k).master) whole (set_by says V O (set_of S k))
      set_is = λ p. record {
        slot = (set_of S k).slot;
        kind = (set_of S k).kind;
        master = (set_of S k).master;
        size = (set_of S k).size;
        over = (set_of S k).over;
        lists = lists_are p;
        standing = r.renews.online p;
        contents = (ap (λ (x : Standing). contents_by x (shadow_over (read block O (set_of S k)) master) (behind_of (set_of S k))) r.renews.online
            ∙ (λ q. record { image = image_is q; behind = behind_of (set_of S k) })
            ∙ sym (shows_again (standing_of says (set_of S k)) (shadow_over (read says O (set_of S k)) master) (volume_image (group_by says V O S) (set_of S k).master) (behind_of (set_of S k)) r.renews.here)) p;
      }

    -- ---- the group

    -- a set, by what its slot says
    abbrev state_at : SetSeen → SlotSays → ShadowState
    state_at t slot = state_of t slot (read_from (t.area slot.area_b) t.size.blocks (shown (shadow_disk t)) (over_image O t.over)) (image_in V t.master) (behind_of t)

    no_master : (k : ℕ) → k < length S → is_enabled says (set_of S k) ≡ true → is_to_master (change_of changes (set_of S k).slot) ≡ false
    no_master k lt live = elim (which k lt) [
      | inl kept ↦ ap (λ (c : Option Change). is_to_master c) kept.change
      | inr r ↦ ap (λ (c : Option Change). is_to_master c) r.change
    ]

    abbrev then_by : Option Change → ShadowState → Option ShadowState
    then_by change set = changed_by changes (before says V O S changes) (change_of changes (offline_first change set).slot) (offline_first change set)

    set_changed : (k : ℕ) → k < length S → then_by (change_of changes (set_of S k).slot) (set_by says V O (set_of S k)) ≡ Some (set_by block V O (set_of S k))
    set_changed k lt = elim (which k lt) [
      | inl kept ↦
          ap (λ (c : Option Change). then_by c (set_by says V O (set_of S k))) kept.change
          ∙ ap (λ (c : Option Change). changed_by changes (before says V O S changes) c (set_by says V O (set_of S k))) kept.change
          ∙ ap (λ (set : ShadowState). Some set) (as_it_is says V O S changes no_master (set_by says V O (set_of S k)))
          ∙ ap (λ (x : SlotSays). Some (state_at (set_of S k) x)) (sym kept.slot)
      | inr r ↦
          ap (λ (c : Option Change). then_by c (set_by says V O (set_of S k))) r.change
          ∙ ap (λ (c : Option Change). changed_by changes (before says V O S changes) c (set_by says V O (set_of S k))) r.change
          ∙ ap (λ (set : ShadowState). Some set) (sym (set_is k lt r))
    ]

    pub still_enabled : (k : ℕ) → k < length S → is_enabled block (set_of S k) ≡ is_enabled says (set_of S k)
    still_enabled k lt = elim (which k lt) [
      | inl kept ↦ ap (λ (x : SlotSays). x.enabled) kept.slot
      | inr r ↦ r.renews.slot.enabled
    ]

    -- the group stands for the commit by the new block
    pub group_renewed : (note : Option (List ℕ)) → IsNext says block note → filter_map (λ one. new_set (before says V O S changes) one) changes ≡ []
        → group_by block V O S ≡ committed (group_by says V O S) changes note
    group_renewed note next none_new = makes says block V O S changes note (record {
      note_is = next.note;
      sequence_is = next.sequence;
      none_new = none_new;
      each = λ k lt. record {
        stays = λ was is. set_changed k lt;
        goes = λ was is. absurd (never (sym was ∙ sym (still_enabled k lt) ∙ is));
        comes = λ was. still_enabled k lt ∙ was;
      };
      images = λ v l. volume_same v ∙ sym (image_as_it_is says V O S changes no_master v (volume_by says V O S v));
    })

    -- ---- and it is whole by it

    -- what has contents of its own had some, in the same place
    record HadOwn (t : SetSeen) : Type 0 where
      some : (c : ℕ) → (chunks_by block t).state c ≢ 0 → (chunks_by says t).state c ≢ 0
      place : (c : ℕ) → (chunks_by block t).state c ≢ 0 → (chunks_by block t).place c ≡ (chunks_by says t).place c

    had : (k : ℕ) → k < length S → HadOwn (set_of S k)
    had k lt = elim (which k lt) [
      | inl kept ↦ record {
        some = λ c ne z. ne (ap (λ (x : SlotSays). ((set_of S k).area x.area_b).state c) kept.slot ∙ z);
        place = λ c ne. ap (λ (x : SlotSays). ((set_of S k).area x.area_b).place c) kept.slot;
      }
      | inr r ↦ record {
        some = λ c ne z. elim (cases_lt c (chunks_of (set_of S k))) [
          | inl l ↦ zero_one _ z (was_one whole (set_of S k).kind _ (r.low k lt r.renews.live refl c l) (λ e. ne (r.renews.states.states c l ∙ e))).0
          | inr le ↦ ne (r.renews.states.none c le)
        ];
        place = λ c ne. r.renews.places.each c ne;
      }
    ]
      where
        zero_one : (m : ℕ) → m ≡ 0 → m ≡ 1 → ⊥
        zero_one m a b = omega (arith, a, b)

    -- where a set stands on its shadow alone, nothing has changed of it, and of no set of its master
    same_three : (j : ℕ) → j < length S → is_enabled block (set_of S j) ≡ true → (c : ℕ) → c < chunks_of (set_of S j) → (chunks_by block (set_of S j)).state c ≡ 3
        → (chunks_by says (set_of S j)).state c ≡ 3
    same_three j lj live c l three = elim (which j lj) [
      | inl kept ↦ ap (λ (x : SlotSays). ((set_of S j).area x.area_b).state c) (sym kept.slot) ∙ three
      | inr r ↦ absurd (never_three whole (set_of S j).kind _ (r.low j lj r.renews.live refl c l) (sym (r.renews.states.states c l) ∙ three))
    ]

    other_kept : (j k : ℕ) → j < length S → k < length S → is_enabled says (set_of S j) ≡ true → (set_of S j).master ≡ (set_of S k).master → (c : ℕ) → c < chunks_of (set_of S j)
        → (chunks_by says (set_of S j)).state c ≡ 3 → Kept (set_of S k)
    other_kept j k lj lk live same c l three = elim (which k lk) [
      | inl kept ↦ kept
      | inr r ↦ absurd (not_three _ (r.low j lj live same c l) three)
    ]

    pub whole_renewed : AreWhole block V O S
    whole_renewed = record {
      volumes_told = w.volumes_told;
      overs_told = w.overs_told;
      each = each;
      apart = λ j k lj lk ne. record {
        splits = λ live live' on same c l three.
            let was_live = sym (still_enabled j lj) ∙ live in
            let was_three = same_three j lj live c l three in
            let kept = other_kept j k lj lk was_live same c l was_three in
            ap (λ (x : SlotSays). ((set_of S k).area x.area_b).state c) kept.slot
            ∙ (w.apart j k lj lk ne).splits was_live (sym (still_enabled k lk) ∙ live') (ap (λ (x : SlotSays). is_offline x.standing) (sym kept.slot) ∙ on) same c l was_three;
        alone = λ live live' same c l three e.
            let was_live = sym (still_enabled j lj) ∙ live in
            let was_three = same_three j lj live c l three in
            let kept = other_kept j k lj lk was_live same c l was_three in
            (w.apart j k lj lk ne).alone was_live (sym (still_enabled k lk) ∙ live') same c l was_three (ap (λ (x : SlotSays). ((set_of S k).area x.area_b).state c) (sym kept.slot) ∙ e);
      };
      slots_apart = λ j k lj lk ne. record {
        each = λ live live' same c d slot some at other there.
            (w.slots_apart j k lj lk ne).each (sym (still_enabled j lj) ∙ live) (sym (still_enabled k lk) ∙ live') same c d slot
            ((had j lj).some c some) (sym ((had j lj).place c some) ∙ at) ((had k lk).some d other) (sym ((had k lk).place d other) ∙ there);
      };
    }
      where
        each : (k : ℕ) → k < length S → IsWholeSet block V O (set_of S k)
        each k lt = record {
          shadow = (w.each k lt).shadow;
          bitmap = (w.each k lt).bitmap;
          kind = kind_is;
          off = off;
          placed = λ live. record {
            each = λ c d ne some other same. ((w.each k lt).placed (sym (still_enabled k lt) ∙ live)).each c d ne ((had k lt).some c some) ((had k lt).some d other)
                (sym ((had k lt).place c some) ∙ same ∙ (had k lt).place d other);
          };
          alike = alike;
        }
          where
            kind_is : is_enabled block (set_of S k) ≡ true → (slot_of block (set_of S k)).kind ≡ (set_of S k).kind
            kind_is live = elim (which k lt) [
              | inl kept ↦ ap (λ (x : SlotSays). x.kind) kept.slot ∙ (w.each k lt).kind (sym (still_enabled k lt) ∙ live)
              | inr r ↦ r.renews.slot.kind ∙ (w.each k lt).kind r.renews.live
            ]

            off : is_enabled block (set_of S k) ≡ true → is_offline (standing_of block (set_of S k)) ≡ true → is_compact (set_of S k).kind ≡ true
            off live is = elim (which k lt) [
              | inl kept ↦ (w.each k lt).off (sym (still_enabled k lt) ∙ live) (ap (λ (x : SlotSays). is_offline x.standing) (sym kept.slot) ∙ is)
              | inr r ↦ absurd (never (sym is ∙ ap (λ (x : Standing). is_offline x) r.renews.online))
            ]

            alike : is_enabled block (set_of S k) ≡ true → is_online (standing_of block (set_of S k)) ≡ true → IsAlike (read block O (set_of S k)) (image_in V (set_of S k).master)
            alike live on = elim (which k lt) [
              | inl kept ↦ subst (λ (x : SlotSays). IsAlike (read_from ((set_of S k).area x.area_b) (set_of S k).size.blocks (shown (shadow_disk (set_of S k))) (over_image O (set_of S k).over)) (image_in V (set_of S k).master)) (sym kept.slot)
                  ((w.each k lt).alike (sym (still_enabled k lt) ∙ live) (ap (λ (x : SlotSays). is_online x.standing) (sym kept.slot) ∙ on))
              | inr r ↦ record {
                same = λ i l one.
                    ap (λ (q : ChunkPlace). block_in (shown (shadow_disk (set_of S k))) (over_image O (set_of S k).over) q i) (r.renews.places.each (i / 64) (λ z. zero_one _ z one))
                    ∙ (let was = was_one whole (set_of S k).kind _ (r.low k lt r.renews.live refl (i / 64) (omega (arith, l))) (λ z. zero_one _ (r.renews.states.states (i / 64) (omega (arith, l)) ∙ z) one) in
                    ((w.each k lt).alike r.renews.live (was_online k lt r was.1)).same i l was.0);
              }
            ]
              where
                zero_one : (m : ℕ) → m ≡ 0 → m ≡ 1 → ⊥
                zero_one m a b = omega (arith, a, b)

-- ---- the call

pub fits_of : (volumes overs : List (Option Seen)) (s : SetSeen) → IsHeld volumes overs s → Fits volumes s
fits_of volumes overs s held = record { seat = held.master; blocks = held.blocks }

-- the block is written, and the memory of the sets is turned
pub renew_goes : (g : GroupSeen) → IsKept g.volumes g.overs g.sets → (block : BlockSays) (changes : List (ℕ × Change)) (whole : Bool) (note : Option (List ℕ))
    (S : List SetSeen) (turned : map forgotten S ≡ map forgotten g.sets) {T E : Type 0} (r : Result T E) (mid : GroupSeen) → Commits g block r mid
    → IsNext g.memory block note → ((group : GroupState) → filter_map (λ one. new_set group one) changes ≡ [])
    → (IsWhole g → IsInStep g → (k : ℕ) → k < length g.sets → Kept g.says block g.volumes g.overs g.sets changes whole (set_of g.sets k) ⊎ Renewed g.says block g.volumes g.overs g.sets changes whole (set_of g.sets k))
    → (IsWhole g → IsInStep g → OnOk r ((k : ℕ) → k < length S → IsStep block (set_of S k)))
    → Goes g (Commit changes note ∷ []) r (record g { state = mid.state; says = mid.says; memory = mid.memory; sets = S })
renew_goes g inv block changes whole note S turned r mid cm next none_new which in_step = commit_turns g block (Commit changes note) S turned r mid cm
    (λ w i. group_renewed g.says block g.volumes g.overs g.sets changes whole w.disks fits (which w i) note (subst (λ (b : BlockSays). IsNext b block note) i.block next) (none_new (before g.says g.volumes g.overs g.sets changes)))
    (λ w i. whole_renewed g.says block g.volumes g.overs g.sets changes whole w.disks fits (which w i))
    in_step
  where
    fits : (k : ℕ) → k < length g.sets → Fits g.volumes (set_of g.sets k)
    fits k lt = fits_of g.volumes g.overs (set_of g.sets k) (inv.held k lt)
