-- A step of one set, lifted to the group: to the list of sets of which one changes, and to the images of all volumes and shadows.
use Rattle.std.proofs.Common.{◌≡◌, ◌≢◌, inl, inr, ℕ, zero, suc, ◌/◌, ◌<◌, Bool, true, false, cond, eqb, ◌&&◌, Option, None, Some, List, [], ◌∷◌, length, map, set, get_or, ◌∙◌, sym, refl, ap, subst, arith}
use Rattle.std.specs.List.{range_with_len}
use Rattle.std.specs.Option.{option_map}
use Rattle.std.proofs.lemmas.Bool.{cases_eq, eq-eqb, ne_eqb, eqb-true}
use Rattle.std.proofs.lemmas.List.{ext_get_or, get_or-set_same, get_or-set_other, length-set}
use Rattle.std.proofs.lemmas.List.FromFn.{length-map-range_with_len, get_or-map-range_with_len}
use Rattle.avs_seg.specs.Image.{Image, Block, block_at, tabulate}
use Rattle.avs_seg.proofs.Blocks.{length-tabulate, block_at-tabulate, same_images}
use Rattle.avs_dev.specs.Seen.{Seen, IsTold, shown}
use Rattle.avs_model.specs.ShadowSets.{Standing, Online, Offline, Exported, is_online, is_offline, ShadowState}
use Rattle.avs_model.specs.Room.{over_slots}
use Rattle.avs_sets.specs.Says.{BlockSays}
use Rattle.avs_sets.specs.Sets.{SetSeen, no_set, disk_of, shadow_block, IsAlike, KeepsMaster}
use Rattle.avs_sets.specs.Meaning.{set_of, disk_in, image_in, is_enabled, standing_of, chunks_by, read, is_back, pick, picked, volume_by, contents_by, shadow_over, behind_of, set_by, over_by, group_by}
use Rattle.avs_sets.specs.Goes.{IsSameSet}
use Rattle.avs_sets.specs.Whole.{IsApart, AreSlotsApart, IsWholeSet, AreWhole}
use Rattle.avs_sets.proofs.Lists.{changed_at, changes_one, used_same}

-- ---- images by the place

pub same_tabulate : (n m : ℕ) (f g : ℕ → Block) → n ≡ m → ((i : ℕ) → i < n → f i ≡ g i) → tabulate n f ≡ tabulate m g
same_tabulate n m f g e same = same_images (tabulate n f) (tabulate m g) (length-tabulate n f ∙ e ∙ sym (length-tabulate m g)) (λ i lt. each i (omega (arith, lt, length-tabulate n f)))
  where
    each : (i : ℕ) → i < n → block_at (tabulate n f) i ≡ block_at (tabulate m g) i
    each i lt = block_at-tabulate n f i lt ∙ same i lt ∙ sym (block_at-tabulate m g i (omega (arith, lt, e)))

pub same_row : {X : Type 0} (d : X) (n : ℕ) (f g : ℕ → X) → ((v : ℕ) → v < n → f v ≡ g v) → map f (range_with_len 0 n) ≡ map g (range_with_len 0 n)
same_row d n f g same = ext_get_or d _ _ (length-map-range_with_len f 0 n ∙ sym (length-map-range_with_len g 0 n)) (λ i lt. each i (omega (arith, lt, length-map-range_with_len f 0 n)))
  where
    each : (i : ℕ) → i < n → get_or (map f (range_with_len 0 n)) i d ≡ get_or (map g (range_with_len 0 n)) i d
    each i lt = get_or-map-range_with_len f 0 n i i d lt (omega arith) ∙ same i lt ∙ sym (get_or-map-range_with_len g 0 n i i d lt (omega arith))

-- ---- a set that is not online has no image

pub same_contents : (standing : Standing) (a b behind : Image) → (is_online standing ≡ true → a ≡ b) → contents_by standing a behind ≡ contents_by standing b behind
same_contents Online a b behind same = λ p. record { image = same refl p; behind = behind }
same_contents (Offline need slots) a b behind same = refl
same_contents (Exported stamp) a b behind same = refl

pub online_not_offline : (standing : Standing) → is_online standing ≡ true → is_offline standing ≡ false
online_not_offline Online is = refl
online_not_offline (Offline need slots) is = elim (never is) [ ]
  where
    never : false ≡ true → ⊥
    never is = cc
online_not_offline (Exported stamp) is = refl

-- ---- tests

pub all_three : (a b x : Bool) → (a ≡ true → b ≡ true → x ≡ false) → (a && (b && x)) ≡ false
all_three true true x h = h refl refl
all_three true false x h = refl
all_three false b x h = refl

pub none_back : (says : BlockSays) (t : SetSeen) (v i : ℕ) → (is_enabled says t ≡ true → t.master ≡ v → (chunks_by says t).state (i / 64) ≢ 3) → is_back says v i t ≡ false
none_back says t v i h = all_three (is_enabled says t) (eqb t.master v) (eqb ((chunks_by says t).state (i / 64)) 3) (λ live same. ne_eqb ((chunks_by says t).state (i / 64)) 3 (h live (eqb-true t.master v same)))

pub own_back : (a b x : Bool) → a ≡ true → b ≡ true → (a && (b && x)) ≡ x
own_back a b x live same = ap (λ (y : Bool). y && (b && x)) live ∙ ap (λ (y : Bool). y && x) same

-- ---- the block that is picked

pub pick_none : (says : BlockSays) (O : List (Option Seen)) (S : List SetSeen) (v i : ℕ) (d : Block) → ((j : ℕ) → j < length S → is_back says v i (set_of S j) ≡ false) → pick says O S v i d ≡ d
pick_none says O [] v i d none = refl
pick_none says O (s ∷ S) v i d none =
    ap (λ (b : Bool). cond b ((read says O s).stands i) (pick says O S v i d)) (none 0 (omega arith))
    ∙ pick_none says O S v i d (λ j lt. none (suc j) (omega (arith, lt)))

pub pick_own : (says : BlockSays) (O : List (Option Seen)) (S : List SetSeen) (v i : ℕ) (d : Block) (k : ℕ) → k < length S → ((j : ℕ) → j < length S → j ≢ k → is_back says v i (set_of S j) ≡ false)
    → pick says O S v i d ≡ cond (is_back says v i (set_of S k)) ((read says O (set_of S k)).stands i) d
pick_own says O [] v i d k lt others = elim (none k lt) [ ]
  where
    none : (k : ℕ) → k < 0 → ⊥
    none k lt = omega arith
pick_own says O (s ∷ S) v i d zero lt others = ap (λ (x : Block). cond (is_back says v i s) ((read says O s).stands i) x) (pick_none says O S v i d (λ j l. others (suc j) (omega (arith, l)) (λ e. omega (arith, e))))
pick_own says O (s ∷ S) v i d (suc k) lt others =
    ap (λ (b : Bool). cond b ((read says O s).stands i) (pick says O S v i d)) (others 0 (omega arith) (λ e. omega (arith, e)))
    ∙ pick_own says O S v i d k (omega (arith, lt)) (λ j l ne. others (suc j) (omega (arith, l)) (λ e. ne (omega (arith, e))))

-- the sets stand where they stood
pub record AllStill (says : BlockSays) (O O' : List (Option Seen)) (t : SetSeen) : Type 0 where
  pub stands : is_enabled says t ≡ true → (i : ℕ) → (chunks_by says t).state (i / 64) ≢ 0 → (read says O' t).stands i ≡ (read says O t).stands i

back_is : (a b : Bool) (n : ℕ) → (a && (b && eqb n 3)) ≡ true → (a ≡ true) × (n ≢ 0)
back_is a b n is = both a b (eqb n 3) is refl
  where
    three_not : (n : ℕ) → n ≡ 3 → n ≡ 0 → ⊥
    three_not n e f = omega (arith, e, f)

    never : false ≡ true → ⊥
    never is = cc

    both : (a b x : Bool) → (a && (b && x)) ≡ true → eqb n 3 ≡ x → (a ≡ true) × (n ≢ 0)
    both true true true is three = (refl, λ z. three_not n (eqb-true n 3 three) z)
    both true true false is three = absurd (never is)
    both true false x is three = absurd (never is)
    both false b x is three = absurd (never is)

still_back : (says : BlockSays) (O O' : List (Option Seen)) (v i : ℕ) (t : SetSeen) → AllStill says O O' t → (a b : Block) → a ≡ b
    → cond (is_back says v i t) ((read says O' t).stands i) a ≡ cond (is_back says v i t) ((read says O t).stands i) b
still_back says O O' v i t still a b same = go (is_back says v i t) refl
  where
    go : (x : Bool) → is_back says v i t ≡ x → cond x ((read says O' t).stands i) a ≡ cond x ((read says O t).stands i) b
    go true is = let e = back_is (is_enabled says t) (eqb t.master v) ((chunks_by says t).state (i / 64)) is in still.stands e.0 i e.1
    go false is = same

pub pick_still : (says : BlockSays) (O O' : List (Option Seen)) (S : List SetSeen) (v i : ℕ) (d : Block) → ((j : ℕ) → j < length S → AllStill says O O' (set_of S j)) → pick says O' S v i d ≡ pick says O S v i d
pick_still says O O' [] v i d still = refl
pick_still says O O' (t ∷ S) v i d still = still_back says O O' v i t (still 0 (omega arith)) _ _ (pick_still says O O' S v i d (λ j lt. still (suc j) (omega (arith, lt))))

pub pick_other : (says : BlockSays) (O O' : List (Option Seen)) (S : List SetSeen) (v i : ℕ) (d : Block) (k : ℕ) (s' : SetSeen)
    → ((j : ℕ) → j < length S → j ≢ k → AllStill says O O' (set_of S j)) → is_back says v i (set_of S k) ≡ false → is_back says v i s' ≡ false
    → pick says O' (set S k s') v i d ≡ pick says O S v i d
pick_other says O O' [] v i d k s' still old new = refl
pick_other says O O' (s ∷ S) v i d zero s' still old new =
    ap (λ (b : Bool). cond b ((read says O' s').stands i) (pick says O' S v i d)) new
    ∙ pick_still says O O' S v i d (λ j lt. still (suc j) (omega (arith, lt)) (λ e. omega (arith, e)))
    ∙ sym (ap (λ (b : Bool). cond b ((read says O s).stands i) (pick says O S v i d)) old)
pick_other says O O' (s ∷ S) v i d (suc k) s' still old new =
    still_back says O O' v i s (still 0 (omega arith) (λ e. omega (arith, e))) _ _
    (pick_other says O O' S v i d k s' (λ j lt ne. still (suc j) (omega (arith, lt)) (λ e. ne (omega (arith, e)))) old new)

-- ---- one set, its master's disk and its overflow volume change

-- the disks of other volumes stay, and the room of each overflow volume
pub record IsElsewhere (V V' O O' : List (Option Seen)) (master : ℕ) : Type 0 where
  pub volumes : (w : ℕ) → w ≢ master → get_or V' w None ≡ get_or V w None
  pub volumes_long : length V' ≡ length V
  pub overs : (o : ℕ) → option_map (λ d. over_slots d.size) (get_or O' o None) ≡ option_map (λ d. over_slots d.size) (get_or O o None)
  pub overs_long : length O' ≡ length O

-- a step of a set that keeps what it and its master stand for
pub record Moves (says : BlockSays) (V V' O O' : List (Option Seen)) (s s' : SetSeen) (m m' : Seen) : Type 0 where
  pub same : IsSameSet s s'
  pub live : is_enabled says s ≡ true
  pub was : get_or V s.master None ≡ Some m
  pub now : get_or V' s.master None ≡ Some m'
  pub long : length (shown m) ≡ s.size.blocks
  pub still_long : length (shown m') ≡ s.size.blocks
  pub keeps : KeepsMaster (read says O s) (shown m) (read says O' s') (shown m')
  pub elsewhere : IsElsewhere V V' O O' s.master

module _ (says : BlockSays) (V V' O O' : List (Option Seen)) (S : List SetSeen) (k : ℕ) (lt : k < length S) (s' : SetSeen) (m m' : Seen) (mv : Moves says V V' O O' (set_of S k) s' m m')
    (apart : (j : ℕ) → j < length S → j ≢ k → IsApart says (set_of S k) (set_of S j))
    (still : (j : ℕ) → j < length S → j ≢ k → AllStill says O O' (set_of S j)) where
  here : set_of (set S k s') k ≡ s'
  here = get_or-set_same S k s' no_set lt

  there : (j : ℕ) → j ≢ k → set_of (set S k s') j ≡ set_of S j
  there j ne = get_or-set_other S k j s' no_set ne

  master_is : s'.master ≡ (set_of S k).master
  master_is = mv.same.master

  live_now : is_enabled says s' ≡ true
  live_now = ap (λ (n : ℕ). (says.slots n).enabled) mv.same.slot ∙ mv.live

  image_was : image_in V (set_of S k).master ≡ shown m
  image_was = ap (λ (d : Option Seen). shown (disk_of d)) mv.was

  image_now : image_in V' (set_of S k).master ≡ shown m'
  image_now = ap (λ (d : Option Seen). shown (disk_of d)) mv.now

  image_other : (w : ℕ) → w ≢ (set_of S k).master → image_in V' w ≡ image_in V w
  image_other w ne = ap (λ (d : Option Seen). shown (disk_of d)) (mv.elsewhere.volumes w ne)

  -- where the contents stand on this shadow alone, they stand on no other
  others : (i : ℕ) → i < (set_of S k).size.blocks → (chunks_by says (set_of S k)).state (i / 64) ≡ 3 → (j : ℕ) → j < length S → j ≢ k → is_back says (set_of S k).master i (set_of S j) ≡ false
  others i inside three j l ne = none_back says (set_of S j) (set_of S k).master i (λ live same e. (apart j l ne).alone mv.live live (sym same) (i / 64) (omega (arith, inside)) three e)

  block_same : (i : ℕ) → i < (set_of S k).size.blocks → pick says O' (set S k s') (set_of S k).master i (block_at (shown m') i) ≡ pick says O S (set_of S k).master i (block_at (shown m) i)
  block_same i inside = elim (cases_eq ((chunks_by says (set_of S k)).state (i / 64)) 3) [
    | inl three ↦
        pick_own says O' (set S k s') (set_of S k).master i (block_at (shown m') i) k (omega (arith, lt, length-set S k s')) (λ j l ne. ap (λ (t : SetSeen). is_back says (set_of S k).master i t) (there j ne) ∙ others i inside three j (omega (arith, l, length-set S k s')) ne)
        ∙ ap (λ (t : SetSeen). cond (is_back says (set_of S k).master i t) ((read says O' t).stands i) (block_at (shown m') i)) here
        ∙ ap (λ (b : Bool). cond b ((read says O' s').stands i) (block_at (shown m') i)) (own_back _ _ (eqb ((chunks_by says s').state (i / 64)) 3) live_now (eq-eqb _ _ master_is))
        ∙ mv.keeps.master i inside
        ∙ sym (ap (λ (b : Bool). cond b ((read says O (set_of S k)).stands i) (block_at (shown m) i)) (own_back _ _ (eqb ((chunks_by says (set_of S k)).state (i / 64)) 3) mv.live (eq-eqb _ _ refl)))
        ∙ sym (pick_own says O S (set_of S k).master i (block_at (shown m) i) k lt (others i inside three))
    | inr ne ↦
        pick_other says O O' S (set_of S k).master i (block_at (shown m') i) k s' still (none_back says (set_of S k) _ i (λ live same e. ne e)) (none_back says s' _ i (λ live same e. ne (mv.keeps.back (i / 64) (omega (arith, inside)) e)))
        ∙ ap (λ (d : Block). pick says O S (set_of S k).master i d) (mv.keeps.only i inside ne)
  ]

  -- all volumes keep their images
  pub volume_same : (w : ℕ) → volume_by says V' O' (set S k s') w ≡ volume_by says V O S w
  volume_same w = elim (cases_eq w (set_of S k).master) [
    | inl same ↦ subst (λ (x : ℕ). volume_by says V' O' (set S k s') x ≡ volume_by says V O S x) (sym same)
        (ap (λ (d : Option Seen). option_map (λ disk. picked says O' (set S k s') (set_of S k).master (shown disk)) d) mv.now
        ∙ ap (λ (img : Image). Some img) (same_tabulate _ _ _ _ (mv.still_long ∙ sym mv.long) (λ i l. block_same i (omega (arith, l, mv.still_long))))
        ∙ sym (ap (λ (d : Option Seen). option_map (λ disk. picked says O S (set_of S k).master (shown disk)) d) mv.was))
    | inr ne ↦
        ap (λ (d : Option Seen). option_map (λ disk. picked says O' (set S k s') w (shown disk)) d) (mv.elsewhere.volumes w ne)
        ∙ ap (λ (f : Image → Image). option_map (λ disk. f (shown disk)) (get_or V w None)) (λ p img. tabulate (length img) (λ i. block_there w ne img i p))
  ]
    where
      block_there : (w : ℕ) → w ≢ (set_of S k).master → (img : Image) (i : ℕ) → pick says O' (set S k s') w i (block_at img i) ≡ pick says O S w i (block_at img i)
      block_there w ne img i = pick_other says O O' S w i (block_at img i) k s' still (none_back says (set_of S k) w i (λ live same e. ne (sym same))) (none_back says s' w i (λ live same e. ne (sym same ∙ master_is)))

  pub over_same : (o : ℕ) → over_by says O' (set S k s') o ≡ over_by says O S o
  over_same o = λ p. cond (used_same says S k s' o mv.same.slot mv.same.over p) (mv.elsewhere.overs o p) None

  -- ---- the sets

  module _ (fits : (j : ℕ) → j < length S → (set_of S j).master ≡ (set_of S k).master → (set_of S j).size.blocks ≡ (set_of S k).size.blocks) where
    -- the master's disk is as it was wherever a set other than this one looks at it
    disk_same : (j : ℕ) → j < length S → j ≢ k → is_enabled says (set_of S j) ≡ true → is_offline (standing_of says (set_of S j)) ≡ false → (set_of S j).master ≡ (set_of S k).master → (i : ℕ) → i < (set_of S j).size.blocks → (chunks_by says (set_of S j)).state (i / 64) ≢ 2
        → block_at (image_in V' (set_of S j).master) i ≡ block_at (image_in V (set_of S j).master) i
    disk_same j l ne live on same i inside alone =
        let below : i < (set_of S k).size.blocks = omega (arith, inside, fits j l same) in
        ap (λ (w : ℕ). block_at (image_in V' w) i) same
        ∙ ap (λ (img : Image). block_at img i) image_now
        ∙ mv.keeps.only i below (λ three. alone ((apart j l ne).splits mv.live live on (sym same) (i / 64) (omega (arith, below)) three))
        ∙ sym (ap (λ (img : Image). block_at img i) image_was)
        ∙ ap (λ (w : ℕ). block_at (image_in V w) i) (sym same)

    other_block : (j : ℕ) → j < length S → j ≢ k → is_enabled says (set_of S j) ≡ true → is_offline (standing_of says (set_of S j)) ≡ false → (i : ℕ) → i < (set_of S j).size.blocks
        → shadow_block (read says O' (set_of S j)) (image_in V' (set_of S j).master) i ≡ shadow_block (read says O (set_of S j)) (image_in V (set_of S j).master) i
    other_block j l ne live on i inside = elim (cases_eq ((chunks_by says (set_of S j)).state (i / 64)) 0) [
      | inr some ↦
          ap (λ (b : Bool). cond b (block_at (image_in V' (set_of S j).master) i) ((read says O' (set_of S j)).stands i)) (ne_eqb _ 0 some)
          ∙ (still j l ne).stands live i some
          ∙ sym (ap (λ (b : Bool). cond b (block_at (image_in V (set_of S j).master) i) ((read says O (set_of S j)).stands i)) (ne_eqb _ 0 some))
      | inl zero_is ↦
          ap (λ (b : Bool). cond b (block_at (image_in V' (set_of S j).master) i) ((read says O' (set_of S j)).stands i)) (eq-eqb _ 0 zero_is)
          ∙ elim (cases_eq (set_of S j).master (set_of S k).master) [
            | inr other ↦ ap (λ (img : Image). block_at img i) (image_other (set_of S j).master other)
            | inl same ↦ disk_same j l ne live on same i inside (λ two. not_two _ zero_is two)
          ]
          ∙ sym (ap (λ (b : Bool). cond b (block_at (image_in V (set_of S j).master) i) ((read says O (set_of S j)).stands i)) (eq-eqb _ 0 zero_is))
    ]
      where
        not_two : (n : ℕ) → n ≡ 0 → n ≡ 2 → ⊥
        not_two n a b = omega (arith, a, b)

    other_set : (j : ℕ) → j < length S → j ≢ k → is_enabled says (set_of S j) ≡ true → set_by says V' O' (set_of S j) ≡ set_by says V O (set_of S j)
    other_set j l ne live = λ p. record (set_by says V O (set_of S j)) {
      contents = same_contents (standing_of says (set_of S j)) (shadow_over (read says O' (set_of S j)) (image_in V' (set_of S j).master)) (shadow_over (read says O (set_of S j)) (image_in V (set_of S j).master)) (behind_of (set_of S j))
          (λ on. same_tabulate _ _ _ _ refl (other_block j l ne live (online_not_offline _ on))) p;
    }

    -- the state of the group: one set changes in it, and no image does
    pub group_moves : (change : ShadowState → ShadowState) → set_by says V' O' s' ≡ change (set_by says V O (set_of S k))
        → ((j : ℕ) → j < length S → j ≢ k → (set_of S j).slot ≢ (set_of S k).slot)
        → group_by says V' O' (set S k s') ≡ record (group_by says V O S) { sets = changed_at (set_of S k).slot change (group_by says V O S).sets }
    group_moves change own slots = λ p. record {
      volumes = (ap (λ (n : ℕ). map (λ w. volume_by says V' O' (set S k s') w) (range_with_len 0 n)) mv.elsewhere.volumes_long ∙ same_row None (length V) _ _ (λ w l. volume_same w)) p;
      overs = (ap (λ (n : ℕ). map (λ o. over_by says O' (set S k s') o) (range_with_len 0 n)) mv.elsewhere.overs_long ∙ same_row None (length O) _ _ (λ o l. over_same o)) p;
      sets = (changes_one (λ t. is_enabled says t) (λ t. set_by says V O t) (λ t. set_by says V' O' t) (set_of S k).slot change (λ t. refl) S k lt s' live_now mv.live own refl
          (λ j l ne. record { same = other_set j l ne; ne = slots j l ne })) p;
      note = says.note;
      sequence = says.sequence;
    }

    -- the disks are whole as before
    pub whole_moves : AreWhole says V O S → IsWholeSet says V' O' s' → ((v : ℕ) → IsTold (disk_in V' v)) → ((o : ℕ) → IsTold (disk_in O' o))
        → ((j : ℕ) → j < length S → j ≢ k → AreSlotsApart says s' (set_of S j)) → AreWhole says V' O' (set S k s')
    whole_moves w own volumes overs slots = record { volumes_told = volumes; overs_told = overs; each = set_whole; apart = sets_apart; slots_apart = own_slots }
      where
        other_alike : (j : ℕ) → j < length S → j ≢ k → is_enabled says (set_of S j) ≡ true → is_online (standing_of says (set_of S j)) ≡ true → IsAlike (read says O' (set_of S j)) (image_in V' (set_of S j).master)
        other_alike j l ne live on = record {
          same = λ i inside one. (still j l ne).stands live i (λ z. not_zero _ z one) ∙ ((w.each j l).alike live on).same i inside one ∙ elim (cases_eq (set_of S j).master (set_of S k).master) [
            | inr other ↦ sym (ap (λ (img : Image). block_at img i) (image_other (set_of S j).master other))
            | inl same ↦ sym (disk_same j l ne live (online_not_offline _ on) same i inside (λ two. not_one _ one two))
          ];
        }
          where
            not_one : (n : ℕ) → n ≡ 1 → n ≡ 2 → ⊥
            not_one n a b = omega (arith, a, b)

            not_zero : (n : ℕ) → n ≡ 0 → n ≡ 1 → ⊥
            not_zero n a b = omega (arith, a, b)

        set_whole : (j : ℕ) → j < length (set S k s') → IsWholeSet says V' O' (set_of (set S k s') j)
        set_whole j l = elim (cases_eq j k) [
          | inl same ↦ subst (λ (t : SetSeen). IsWholeSet says V' O' t) (sym (ap (λ (x : ℕ). set_of (set S k s') x) same ∙ here)) own
          | inr ne ↦
              let below : j < length S = omega (arith, l, length-set S k s') in
              let old = w.each j below in
              subst (λ (t : SetSeen). IsWholeSet says V' O' t) (sym (there j ne)) (record { shadow = old.shadow; bitmap = old.bitmap; kind = old.kind; off = old.off; placed = old.placed; alike = other_alike j below ne })
        ]

        sets_apart : (i j : ℕ) → i < length (set S k s') → j < length (set S k s') → i ≢ j → IsApart says (set_of (set S k s') i) (set_of (set S k s') j)
        sets_apart i j li lj ij =
            let bi : i < length S = omega (arith, li, length-set S k s') in
            let bj : j < length S = omega (arith, lj, length-set S k s') in
            let blocks : s'.size.blocks ≡ (set_of S k).size.blocks = ap (λ s. s.blocks) mv.same.size in
            elim (cases_eq i k) [
              | inl is ↦
                  let nj : j ≢ k = λ e. ij (is ∙ sym e) in
                  subst (λ (t : SetSeen). IsApart says t (set_of (set S k s') j)) (sym (ap (λ (x : ℕ). set_of (set S k s') x) is ∙ here))
                  (subst (λ (t : SetSeen). IsApart says s' t) (sym (there j nj))
                  (record {
                    splits = λ ls lt' on same c below three. (apart j bj nj).splits mv.live lt' on (sym master_is ∙ same) c (omega (arith, below, blocks)) (mv.keeps.back c (omega (arith, below, blocks)) three);
                    alone = λ ls lt' same c below three. (apart j bj nj).alone mv.live lt' (sym master_is ∙ same) c (omega (arith, below, blocks)) (mv.keeps.back c (omega (arith, below, blocks)) three);
                  }))
              | inr ni ↦
                  subst (λ (t : SetSeen). IsApart says t (set_of (set S k s') j)) (sym (there i ni))
                  (elim (cases_eq j k) [
                    | inl is ↦
                        subst (λ (t : SetSeen). IsApart says (set_of S i) t) (sym (ap (λ (x : ℕ). set_of (set S k s') x) is ∙ here))
                        (record {
                          splits = λ ls lt' on same c below three. mv.keeps.splits c (omega (arith, below, fits i bi (same ∙ master_is))) ((w.apart i k bi lt ni).splits ls mv.live (ap (λ (n : ℕ). is_offline (says.slots n).standing) (sym mv.same.slot) ∙ on) (same ∙ master_is) c below three);
                          alone = λ ls lt' same c below three e. (w.apart i k bi lt ni).alone ls mv.live (same ∙ master_is) c below three (mv.keeps.back c (omega (arith, below, fits i bi (same ∙ master_is))) e);
                        })
                    | inr nj ↦ subst (λ (t : SetSeen). IsApart says (set_of S i) t) (sym (there j nj)) (w.apart i j bi bj ij)
                  ])
            ]

        own_slots : (i j : ℕ) → i < length (set S k s') → j < length (set S k s') → i ≢ j → AreSlotsApart says (set_of (set S k s') i) (set_of (set S k s') j)
        own_slots i j li lj ij =
            let bi : i < length S = omega (arith, li, length-set S k s') in
            let bj : j < length S = omega (arith, lj, length-set S k s') in
            elim (cases_eq i k) [
              | inl is ↦
                  let nj : j ≢ k = λ e. ij (is ∙ sym e) in
                  subst (λ (t : SetSeen). AreSlotsApart says t (set_of (set S k s') j)) (sym (ap (λ (x : ℕ). set_of (set S k s') x) is ∙ here))
                  (subst (λ (t : SetSeen). AreSlotsApart says s' t) (sym (there j nj)) (slots j bj nj))
              | inr ni ↦
                  subst (λ (t : SetSeen). AreSlotsApart says t (set_of (set S k s') j)) (sym (there i ni))
                  (elim (cases_eq j k) [
                    | inl is ↦ subst (λ (t : SetSeen). AreSlotsApart says (set_of S i) t) (sym (ap (λ (x : ℕ). set_of (set S k s') x) is ∙ here)) (slots_other s' (set_of S i) (slots i bi ni))
                    | inr nj ↦ subst (λ (t : SetSeen). AreSlotsApart says (set_of S i) t) (sym (there j nj)) (w.slots_apart i j bi bj ij)
                  ])
            ]
          where
            slots_other : (s t : SetSeen) → AreSlotsApart says s t → AreSlotsApart says t s
            slots_other s t a = record { each = λ lt' ls same c d slot some at other there. a.each ls lt' (sym same) d c slot other there some at }
