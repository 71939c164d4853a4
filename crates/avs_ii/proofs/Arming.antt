-- The disks of a group by their numbers.
use Rattle.std.proofs.Common.{◌≡◌, ℕ, zero, suc, ◌+◌, ◌-◌, ◌<◌, ◌≤◌, Bool, true, false, not, IsTrue, List, [], ◌∷◌, ◌++◌, length, map, drop, set, get_or, slice_get, slice_index_or, Option, None, Some, is_some, refl, sym, ◌∙◌, ap, subst, arith}
use Rattle.std.specs.Option.{option_map, option_map_or}
use Rattle.std.specs.List.{flat_map}
use Rattle.std.proofs.Math.Seq.{map-set_same}
use Rattle.std.proofs.lemmas.List.{set-append_right, append-nil, set-get_or, get_or-map, map-set, length-map, set-append_left, get_or_append_left}
use Rattle.std.proofs.lemmas.Option.{same_Some, slice_get-get_or}
use Rattle.avs_dev.specs.Seen.{Seen, Arms, with_tear}
use Rattle.avs_dev.specs.declared.disk.Tear.{Tear}
use Rattle.avs_code.specs.declared.group_blocks.GroupBlock.{GroupBlock}
use Rattle.avs_chunk.specs.ChunkSet.{ChunkSet, disk_of, disks_there}
use Rattle.avs_chunk.specs.Arming as chunk
use Rattle.avs_ii.specs.declared.held.Held.{Held}
use Rattle.avs_ii.specs.Opened.{held_of, sets_of}
use Rattle.avs_ii.specs.Held.{HeldSet, IiDisks, disks_of}
use Rattle.avs_ii.specs.Meaning.{group_by, meaning, kept_on}
use Rattle.avs_ii.specs.AsBelow.{quiet, quiet_set}
use Rattle.avs_ii.specs.Shape.{disk_shape, set_shape, shape_of}
use Rattle.avs_ii.specs.Sound.{IsSound, AreSound, HoldsBlock}
use Rattle.avs_ii.specs.Parts.{set_parts}
use Rattle.avs_ii.specs.Making.{IsSetTold}
use Rattle.avs_ii.specs.Calls.{ArmsGroup, written_of, on_set, on_each, no_tear}
use Rattle.avs_ii.proofs.Making.{all_of, of_all}
use Rattle.avs_ii.proofs.Shapes.{KeepsDisk, KeepsSet, shapes_at, told_set, keeps_disks, keeps_shape, keeps_told, keeps_group, settled_same, same_steady}
use Rattle.avs_ii.proofs.Volumes.{sound_rest, rest_sound}
use Rattle.avs_ii.proofs.Quiet.{group_quiet, group_quiet_none}
use Rattle.avs_ii.proofs.Belows.{as_group, at_one, v_kept}
use Rattle.avs_ii.proofs.Groups.{disks_two}
use Rattle.avs_ii.proofs.Views.{held_some, kept_some}
use Rattle.avs_ii.specs.Kept.{IsHeld, IsKept}

get_left : {X : Type 0} (l m : List X) (i : ℕ) → i < length l → slice_get (l ++ m) i ≡ slice_get l i
get_left [] m i lt = elim (none i lt) [ ]
  where
    none : (i : ℕ) → i < 0 → ⊥
    none i lt = omega arith
get_left (x ∷ l) m zero lt = refl
get_left (x ∷ l) m (suc i) lt = get_left l m i (omega (arith, lt))

get_right : {X : Type 0} (l m : List X) (i k : ℕ) → i ≡ length l + k → slice_get (l ++ m) i ≡ slice_get m k
get_right [] m i k is = ap (λ (n : ℕ). slice_get m n) (zero_plus i k is)
  where
    zero_plus : (i k : ℕ) → i ≡ 0 + k → i ≡ k
    zero_plus i k is = omega arith
get_right (x ∷ l) m zero k is = elim (none (length l) k is) [ ]
  where
    none : (n k : ℕ) → 0 ≡ suc n + k → ⊥
    none n k is = omega arith
get_right (x ∷ l) m (suc i) k is = get_right l m i k (omega (arith, is))

abbrev pub others : List HeldSet → List Seen
others sets = flat_map (λ (s : HeldSet). disks_there s.chunks) sets

module _ (state : Seen) (block : GroupBlock) (V : List Seen) (sets : List HeldSet) (disk place : ℕ) (is : disk ≡ suc place) where
  abbrev g : IiDisks
  g = as_group state block V sets

  pub volume_written : (m : Seen) → m ≡ slice_index_or V place m → place < length V → Some m.written ≡ written_of g disk
  volume_written m at lt =
      ap (λ (x : Seen). Some x.written) at
      ∙ ap (λ (o : Option Seen). option_map (λ (d : Seen). d.written) o) (sym (slice_get-get_or V place m lt) ∙ sym (get_left V (others sets) place lt))
      ∙ ap (λ (k : ℕ). written_of g k) (sym is)

  pub other_written : (k : ℕ) → place ≡ length V + k → option_map (λ (d : Seen). d.written) (slice_get (others sets) k) ≡ written_of g disk
  other_written k at = ap (λ (o : Option Seen). option_map (λ (d : Seen). d.written) o) (sym (get_right V (others sets) place k at)) ∙ ap (λ (k : ℕ). written_of g k) (sym is)

-- ---- the same of disks of any type

module _ {A D : Type 0} (seen : A → Seen) (state : Seen) (block : GroupBlock) (items : List A) (o : Option (Held D)) (g : IiDisks) (view : as_group state block (map seen items) (sets_of o) ≡ g) (disk place : ℕ) (is : disk ≡ suc place) where
  pub volume_written_as : (was : A) → was ≡ slice_index_or items place was → place < length items → (n : ℕ) → n ≡ (seen was).written → Some n ≡ written_of g disk
  volume_written_as was value lt n number =
      ap (λ (k : ℕ). Some k) number
      ∙ volume_written state block (map seen items) (sets_of o) disk place is (seen was) (ap seen value ∙ sym (get_or-map seen items place was (seen was) lt)) (omega (arith, lt, length-map items seen))
      ∙ ap (λ (x : IiDisks). written_of x disk) view

  pub none_written_as : o ≡ None → length items ≤ place → None ≡ written_of g disk
  none_written_as none le =
      other_written state block (map seen items) [] disk place is (place - length items) (omega (arith, le, length-map items seen))
      ∙ ap (λ (x : Option (Held D)). written_of (as_group state block (map seen items) (sets_of x)) disk) (sym none)
      ∙ ap (λ (x : IiDisks). written_of x disk) view

  pub set_written_as : (h : Held D) → o ≡ Some h → length items ≤ place → (n : Option ℕ) → n ≡ chunk.written_of h.chunks (place - length items) → n ≡ written_of g disk
  set_written_as h some le n number =
      number
      ∙ ap (λ (l : List Seen). option_map (λ (d : Seen). d.written) (slice_get l (place - length items))) (sym (append-nil (disks_there h.chunks)))
      ∙ other_written state block (map seen items) (held_of h ∷ []) disk place is (place - length items) (omega (arith, le, length-map items seen))
      ∙ ap (λ (x : Option (Held D)). written_of (as_group state block (map seen items) (sets_of x)) disk) (sym some)
      ∙ ap (λ (x : IiDisks). written_of x disk) view

-- ---- a tear is armed

-- a disk is as it was, but for the tear on it
same_armed : (d d' : Seen) (tear : Tear) (result : Bool) → Arms d tear result d' → no_tear d' ≡ no_tear d
same_armed d d' tear result arms = go result refl
  where
    go : (b : Bool) → result ≡ b → no_tear d' ≡ no_tear d
    go true e = ap no_tear (arms.armed (subst (λ (x : Bool). IsTrue x) (sym e) refl))
    go false e = ap no_tear (arms.unarmed (subst (λ (x : Bool). IsTrue (not x)) (sym e) refl))

-- what arming keeps of a disk
keeps_quiet : (d d' : Seen) → quiet d' ≡ quiet d → KeepsDisk d d'
keeps_quiet d d' same = record {
  shape = ap disk_shape same;
  told = λ told. ap (λ (x : Seen). length x.image) same ∙ told ∙ sym (ap (λ (x : Seen). x.size) same);
}

-- and of a sound group, whose disks are quiet the same
sound_armed : (state : Seen) (block : GroupBlock) (V V' : List Seen) (sets sets' : List HeldSet) → length sets ≤ 1 → length sets' ≤ 1 → map quiet V' ≡ map quiet V → map quiet_set sets' ≡ map quiet_set sets → IsSound (as_group state block V sets) → IsSound (as_group state block V' sets')
sound_armed state block V V' sets sets' one one' same same_sets sound = record {
  holds = sound.holds;
  disks = rest_sound block.slots V' sets' one' (subst (λ (l : List Seen). AreSound block.slots l (map quiet_set sets')) (sym same) (subst (λ (l : List HeldSet). AreSound block.slots (map quiet V) l) (sym same_sets) (sound_rest block.slots V sets one sound.disks)));
}

abbrev arms_at : Option Seen → Bool
arms_at o = option_map_or (λ (d : Seen). d.arms) o false

-- what is sure of a disk is so of each that is the same
sure_by : (o : Option Seen) (m : Seen) → o ≡ Some m → (result : Bool) → (IsTrue m.steady → IsTrue result) → (d : Seen) → o ≡ Some d → IsTrue d.steady → IsTrue result
sure_by o m is result sure d got steady = sure (subst (λ (x : Seen). IsTrue x.steady) (same_Some d m (sym got ∙ is)) steady)

module _ (state : Seen) (block : GroupBlock) (V : List Seen) (sets : List HeldSet) (disk place : ℕ) (is : disk ≡ suc place) (m m' : Seen) (at : m ≡ slice_index_or V place m) (lt : place < length V) (tear : Tear) (result : Bool) (arms : Arms m tear result m') where
  abbrev a : IiDisks
  a = as_group state block V sets

  abbrev a' : IiDisks
  a' = as_group state block (set V place m') sets

  got : slice_get (disks_of a) disk ≡ Some m
  got = ap (λ (k : ℕ). slice_get (disks_of a) k) is ∙ get_left V (others sets) place lt ∙ slice_get-get_or V place m lt ∙ ap (λ (x : Seen). Some x) (sym at)

  there : slice_index_or (disks_of a) disk state ≡ m
  there =
      ap (λ (k : ℕ). slice_index_or (disks_of a) k state) is
      ∙ get_or_append_left V (others sets) state place lt
      ∙ same_default V place state m lt
      ∙ sym at
    where
      same_default : (l : List Seen) (i : ℕ) (d e : Seen) → i < length l → get_or l i d ≡ get_or l i e
      same_default [] i d e lt = elim (none i lt) [ ]
        where
          none : (i : ℕ) → i < 0 → ⊥
          none i lt = omega arith
      same_default (x ∷ l) zero d e lt = refl
      same_default (x ∷ l) (suc i) d e lt = same_default l i d e (omega (arith, lt))

  disks_now : disks_of a' ≡ set (disks_of a) disk m'
  disks_now = ap (λ (l : List Seen). state ∷ l) (sym (set-append_left V (others sets) place m' lt)) ∙ ap (λ (k : ℕ). set (disks_of a) k m') (sym is)

  quiet_m : quiet m' ≡ quiet m
  quiet_m = ap quiet (same_armed m m' tear result arms)

  pub size_m' : m'.size ≡ m.size
  size_m' = ap (λ (d : Seen). d.size) quiet_m

  volumes_quiet : map quiet (set V place m') ≡ map quiet V
  volumes_quiet = map-set_same quiet V place m' m (quiet_m ∙ ap quiet at)

  arms_shape : shape_of a' ≡ shape_of a
  arms_shape = λ i. record { state = disk_shape state; volumes = shapes_at V place m m' at (keeps_quiet m m' quiet_m) i; sets = map set_shape sets }

  pub volume_arms : length sets ≤ 1 → (meaning a' ≡ meaning a) → (IsTrue m.steady → IsTrue result) → ArmsGroup a disk tear result a'
  volume_arms one group sure = record {
    answer = arms.answer ∙ ap arms_at (sym got);
    armed = λ so. disks_now ∙ ap (λ (d : Seen). set (disks_of a) disk d) (arms.armed so ∙ ap (λ (d : Seen). with_tear tear d) (sym there));
    unarmed = λ not_so. ap (λ (l : List Seen). as_group state block l sets) (ap (λ (d : Seen). set V place d) (arms.unarmed not_so ∙ at ∙ same_own V place m lt) ∙ set-get_or V place state);
    rest = ap (λ (l : List Seen). record (on_each no_tear a) { volumes = l }) (map-set_same no_tear V place m' m (same_armed m m' tear result arms ∙ ap no_tear at));
    block = refl;
    group = group;
    shape = arms_shape;
    still_steady = same_steady a a' arms_shape;
    told = λ told. record { state = told.state; volumes = told_set V place m m' at (keeps_quiet m m' quiet_m) lt told.volumes; sets = told.sets };
    sure = sure_by (slice_get (disks_of a) disk) m got result sure;
    sound = sound_armed state block V (set V place m') sets sets one one volumes_quiet refl;
  }
    where
      same_own : (l : List Seen) (i : ℕ) (d : Seen) → i < length l → get_or l i d ≡ get_or l i state
      same_own [] i d lt = elim (none i lt) [ ]
        where
          none : (i : ℕ) → i < 0 → ⊥
          none i lt = omega arith
      same_own (x ∷ l) zero d lt = refl
      same_own (x ∷ l) (suc i) d lt = same_own l i d (omega (arith, lt))

pub arms_none : (state : Seen) (block : GroupBlock) (V : List Seen) (disk place : ℕ) → disk ≡ suc place → (m m' : Seen) → m ≡ slice_index_or V place m → place < length V → (tear : Tear) (result : Bool) → Arms m tear result m' → (IsTrue m.steady → IsTrue result) → ArmsGroup (as_group state block V []) disk tear result (as_group state block (set V place m') [])
arms_none state block V disk place is m m' at lt tear result arms sure =
    volume_arms state block V [] disk place is m m' at lt tear result arms (omega arith)
    (let b = kept_on state in sym (group_quiet_none b.slots b.note (set V place m')) ∙ ap (λ (l : List Seen). group_by b.slots b.note l []) (volumes_quiet state block V [] disk place is m m' at lt tear result arms) ∙ group_quiet_none b.slots b.note V) sure

pub arms_one : (state : Seen) (block : GroupBlock) (V : List Seen) (h : HeldSet) (disk place : ℕ) → disk ≡ suc place → (m m' : Seen) → m ≡ slice_index_or V place m → place < length V → (tear : Tear) (result : Bool) → Arms m tear result m' → (IsTrue m.steady → IsTrue result) → ArmsGroup (as_group state block V (h ∷ [])) disk tear result (as_group state block (set V place m') (h ∷ []))
arms_one state block V h disk place is m m' at lt tear result arms sure =
    volume_arms state block V (h ∷ []) disk place is m m' at lt tear result arms (omega arith)
    (let b = kept_on state in sym (group_quiet b.slots b.note (set V place m') h) ∙ ap (λ (l : List Seen). group_by b.slots b.note l (quiet_set h ∷ [])) (volumes_quiet state block V (h ∷ []) disk place is m m' at lt tear result arms) ∙ group_quiet b.slots b.note V h) sure

-- the state disk
state_arms : (state state' : Seen) (block : GroupBlock) (V : List Seen) (sets : List HeldSet) (tear : Tear) (result : Bool) → Arms state tear result state' → (IsTrue state.steady → IsTrue result) → ArmsGroup (as_group state block V sets) 0 tear result (as_group state' block V sets)
state_arms state state' block V sets tear result arms sure = record {
  answer = arms.answer;
  armed = λ so. ap (λ (d : Seen). d ∷ V ++ others sets) (arms.armed so);
  unarmed = λ not_so. ap (λ (d : Seen). as_group d block V sets) (arms.unarmed not_so);
  rest = ap (λ (d : Seen). record (on_each no_tear (as_group state block V sets)) { state = d }) (same_armed state state' tear result arms);
  block = refl;
  group = ap (λ (d : Seen). meaning (as_group d block V sets)) same;
  shape = shape;
  still_steady = same_steady (as_group state block V sets) (as_group state' block V sets) shape;
  told = λ told. record { state = (keeps_quiet state state' same).told told.state; volumes = told.volumes; sets = told.sets };
  sound = λ sound. record { holds = holds sound.holds; disks = sound.disks };
  sure = sure_by (Some state) state refl result sure;
}
  where
    same : quiet state' ≡ quiet state
    same = ap quiet (same_armed state state' tear result arms)

    holds : HoldsBlock state block → HoldsBlock state' block
    holds h =
        let q : HoldsBlock (quiet state') block = subst (λ (d : Seen). HoldsBlock d block) (sym same) (record { told = h.told; label = h.label; holds = h.holds }) in
        record { told = q.told; label = q.label; holds = q.holds }

    shape : shape_of (as_group state' block V sets) ≡ shape_of (as_group state block V sets)
    shape = λ i. record { state = (keeps_quiet state state' same).shape i; volumes = map disk_shape V; sets = map set_shape sets }

pub state_arms_as : (disk : ℕ) → disk ≡ 0 → (g : IiDisks) (state state' : Seen) (block : GroupBlock) (V : List Seen) (sets : List HeldSet) → as_group state block V sets ≡ g → (tear : Tear) (result : Bool) → Arms state tear result state' → (IsTrue state.steady → IsTrue result) → ArmsGroup g disk tear result (as_group state' block V sets)
state_arms_as disk is g state state' block V sets view tear result arms sure =
    subst (λ (x : IiDisks). ArmsGroup x disk tear result (as_group state' block V sets)) view
    (subst (λ (k : ℕ). ArmsGroup (as_group state block V sets) k tear result (as_group state' block V sets)) (sym is) (state_arms state state' block V sets tear result arms sure))

-- no disk has that number
pub arms_nothing : (x : IiDisks) (disk : ℕ) (tear : Tear) → slice_get (disks_of x) disk ≡ None → ArmsGroup x disk tear false x
arms_nothing x disk tear none = record {
  answer = ap arms_at (sym none);
  armed = λ so. cc;
  unarmed = λ so. refl;
  rest = refl;
  block = refl;
  group = refl;
  shape = refl;
  still_steady = refl;
  told = λ told. told;
  sound = λ sound. sound;
  sure = λ d got steady. let e : None ≡ Some d = sym none ∙ got in absurd (cc);
}

-- ---- a tear on a disk of the set

head_same : (x y : Seen) (l m : List Seen) → x ∷ l ≡ y ∷ m → x ≡ y
head_same x y l m e = ap (λ (k : List Seen). get_or k 0 x) e

tail_same : (x y : Seen) (l m : List Seen) → x ∷ l ≡ y ∷ m → l ≡ m
tail_same x y l m e = ap (λ (k : List Seen). drop 1 k) e

-- a pair of disks, of which one is armed
pair_armed : (tear : Tear) (s b s' b' d : Seen) (k : ℕ) → slice_get (s ∷ b ∷ []) k ≡ Some d → s' ∷ b' ∷ [] ≡ set (s ∷ b ∷ []) k (with_tear tear d) → (no_tear s' ≡ no_tear s) × (no_tear b' ≡ no_tear b)
pair_armed tear s b s' b' d zero got now =
    let is : s ≡ d = ap (λ (o : Option Seen). option_map_or (λ (x : Seen). x) o s) got in
    (ap no_tear (head_same s' (with_tear tear d) (b' ∷ []) (b ∷ []) now) ∙ ap no_tear (sym is), ap no_tear (head_same b' b [] [] (tail_same s' (with_tear tear d) (b' ∷ []) (b ∷ []) now)))
pair_armed tear s b s' b' d (suc zero) got now =
    let is : b ≡ d = ap (λ (o : Option Seen). option_map_or (λ (x : Seen). x) o b) got in
    (ap no_tear (head_same s' s (b' ∷ []) (with_tear tear d ∷ []) now), ap no_tear (head_same b' (with_tear tear d) [] [] (tail_same s' s (b' ∷ []) (with_tear tear d ∷ []) now)) ∙ ap no_tear (sym is))
pair_armed tear s b s' b' d (suc (suc k)) got now = cc

option_same : (f : Seen → Seen) (o o' : Option Seen) → IsTrue (is_some o) → IsTrue (is_some o') → f (disk_of o') ≡ f (disk_of o) → option_map f o' ≡ option_map f o
option_same f None o' t t' e = cc
option_same f (Some d) None t t' e = cc
option_same f (Some d) (Some d') t t' e = ap (λ (x : Seen). Some x) e

get_there : (l : List Seen) (i : ℕ) (d e : Seen) → slice_get l i ≡ Some d → get_or l i e ≡ d
get_there [] i d e got = cc
get_there (x ∷ l) zero d e got = ap (λ (o : Option Seen). option_map_or (λ (y : Seen). y) o x) got
get_there (x ∷ l) (suc i) d e got = get_there l i d e got

module _ (state : Seen) (block : GroupBlock) (V : List Seen) (h : HeldSet) (disk place : ℕ) (is : disk ≡ suc place) (k : ℕ) (at : place ≡ length V + k) (there : IsTrue (is_some h.chunks.shadow)) (c' : ChunkSet) (tear : Tear) (result : Bool) (arms : chunk.ArmsOne h.chunks k tear result c') where
  abbrev s : IiDisks
  s = as_group state block V (h ∷ [])

  abbrev s' : IiDisks
  s' = as_group state block V (record h { chunks = c' } ∷ [])

  there_after : IsTrue (is_some c'.shadow)
  there_after = subst (λ (b : Bool). IsTrue b) (sym arms.still_there) there

  -- the disk with that number
  own_disk : slice_get (disks_of s) disk ≡ slice_get (disks_there h.chunks) k
  own_disk = ap (λ (n : ℕ). slice_get (disks_of s) n) is ∙ get_right V (disks_there h.chunks ++ []) place k at ∙ ap (λ (l : List Seen). slice_get l k) (append-nil (disks_there h.chunks))

  answer_as : (o : Option Seen) → chunk.lets_arm o ≡ arms_at o
  answer_as None = refl
  answer_as (Some d) = refl

  some_disk : result ≡ true → (d : Seen) × (slice_get (disks_there h.chunks) k ≡ Some d)
  some_disk so = go (slice_get (disks_there h.chunks) k) (sym arms.answer ∙ so)
    where
      go : (o : Option Seen) → chunk.lets_arm o ≡ true → (d : Seen) × (o ≡ Some d)
      go None e = cc
      go (Some d) e = (d, refl)

  now : result ≡ true → (d : Seen) → slice_get (disks_there h.chunks) k ≡ Some d → disks_there c' ≡ set (disks_there h.chunks) k (with_tear tear d)
  now so d got = arms.armed (subst (λ (b : Bool). IsTrue b) (sym so) refl) d got

  tear_two : (result ≡ true) → (no_tear (disk_of c'.shadow) ≡ no_tear (disk_of h.chunks.shadow)) × (no_tear c'.areas.disk ≡ no_tear h.chunks.areas.disk)
  tear_two so =
      let found = some_disk so in
      let d = found.0 in
      let two = disks_two h.chunks there in
      pair_armed tear (disk_of h.chunks.shadow) h.chunks.areas.disk (disk_of c'.shadow) c'.areas.disk d k
      (ap (λ (l : List Seen). slice_get l k) (sym two) ∙ found.1)
      (sym (disks_two c' there_after) ∙ now so d found.1 ∙ ap (λ (l : List Seen). set l k (with_tear tear d)) two)

  tear_both : (no_tear (disk_of c'.shadow) ≡ no_tear (disk_of h.chunks.shadow)) × (no_tear c'.areas.disk ≡ no_tear h.chunks.areas.disk)
  tear_both = go result refl
    where
      go : (b : Bool) → result ≡ b → (no_tear (disk_of c'.shadow) ≡ no_tear (disk_of h.chunks.shadow)) × (no_tear c'.areas.disk ≡ no_tear h.chunks.areas.disk)
      go true e = tear_two e
      go false e = let same = arms.unarmed (subst (λ (x : Bool). IsTrue (not x)) (sym e) refl) in (ap (λ (c : ChunkSet). no_tear (disk_of c.shadow)) same, ap (λ (c : ChunkSet). no_tear c.areas.disk) same)

  set_same : (f : Seen → Seen) → f (disk_of c'.shadow) ≡ f (disk_of h.chunks.shadow) → f c'.areas.disk ≡ f h.chunks.areas.disk → on_set f (record h { chunks = c' }) ≡ on_set f h
  set_same f shadow bitmap =
      ap (λ (c : ChunkSet). on_set f (record h { chunks = c })) arms.rest
      ∙ ap (λ (o : Option Seen). record h { chunks = record h.chunks { shadow = o; areas = record h.chunks.areas { disk = f c'.areas.disk } } }) (option_same f h.chunks.shadow c'.shadow there there_after shadow)
      ∙ ap (λ (x : Seen). record h { chunks = record h.chunks { shadow = option_map f h.chunks.shadow; areas = record h.chunks.areas { disk = x } } }) bitmap

  set_quiet : quiet_set (record h { chunks = c' }) ≡ quiet_set h
  set_quiet = set_same quiet (ap quiet tear_both.0) (ap quiet tear_both.1)

  keeps_armed : KeepsSet h c'
  keeps_armed = keeps_disks h c' arms.rest arms.still_there (keeps_quiet (disk_of h.chunks.shadow) (disk_of c'.shadow) (ap quiet tear_both.0)) (keeps_quiet h.chunks.areas.disk c'.areas.disk (ap quiet tear_both.1))

  set_shape_same : shape_of s' ≡ shape_of s
  set_shape_same = λ i. record { state = disk_shape state; volumes = map disk_shape V; sets = keeps_shape h c' keeps_armed i ∷ [] }

  pub set_arms : ArmsGroup s disk tear result s'
  set_arms = record {
    answer = arms.answer ∙ answer_as (slice_get (disks_there h.chunks) k) ∙ ap arms_at (sym own_disk);
    armed = λ so. armed (is_true result so);
    unarmed = λ not_so. ap (λ (c : ChunkSet). as_group state block V (record h { chunks = c } ∷ [])) (arms.unarmed not_so);
    rest = ap (λ (x : HeldSet). record (on_each no_tear s) { sets = x ∷ [] }) (set_same no_tear tear_both.0 tear_both.1);
    block = refl;
    group = let b = kept_on state in
        sym (group_quiet b.slots b.note V (record h { chunks = c' }))
        ∙ ap (λ (x : HeldSet). group_by b.slots b.note (map quiet V) (x ∷ [])) set_quiet
        ∙ group_quiet b.slots b.note V h;
    shape = set_shape_same;
    still_steady = same_steady s s' set_shape_same;
    told = λ told. record { state = told.state; volumes = told.volumes; sets = all_of IsSetTold (set_parts (record h { chunks = c' })) (keeps_told h c' keeps_armed (of_all IsSetTold (set_parts h) told.sets)) };
    sound = sound_armed state block V V (h ∷ []) (record h { chunks = c' } ∷ []) (omega arith) (omega arith) refl (ap (λ (x : HeldSet). x ∷ []) set_quiet);
    sure = λ d got. arms.sure d (sym own_disk ∙ got);
  }
    where
      is_true : (b : Bool) → IsTrue b → b ≡ true
      is_true true t = refl
      is_true false t = cc

      minus : place - length V ≡ k
      minus = omega (arith, at)

      armed : result ≡ true → disks_of s' ≡ set (disks_of s) disk (with_tear tear (slice_index_or (disks_of s) disk state))
      armed so =
          let found = some_disk so in
          let d = found.0 in
          let old : slice_index_or (disks_of s) disk state ≡ d = get_there (disks_of s) disk d state (own_disk ∙ found.1) in
          ap (λ (l : List Seen). state ∷ V ++ l) (append-nil (disks_there c') ∙ now so d found.1 ∙ ap (λ (l : List Seen). set l k (with_tear tear d)) (sym (append-nil (disks_there h.chunks))))
          ∙ ap (λ (n : ℕ). state ∷ V ++ set (disks_there h.chunks ++ []) n (with_tear tear d)) (sym minus)
          ∙ ap (λ (l : List Seen). state ∷ l) (sym (set-append_right V (disks_there h.chunks ++ []) (length V) place (with_tear tear d) refl (omega (arith, at))))
          ∙ ap (λ (n : ℕ). set (disks_of s) n (with_tear tear d)) (sym is)
          ∙ ap (λ (x : Seen). set (disks_of s) disk (with_tear tear x)) (sym old)

  pub set_arms_kept : IsKept state block V (h ∷ []) → IsKept state block V (record h { chunks = c' } ∷ [])
  set_arms_kept kept = keeps_group state block V V h c' keeps_armed refl (settled_same h c' arms.rest (at_one (IsHeld block.slots V) h kept.held).settled) kept

-- ---- the same of disks of any type

module _ {A D : Type 0} (seen : A → Seen) (state : Seen) (block : GroupBlock) (items : List A) (o : Option (Held D)) (g : IiDisks) (view : as_group state block (map seen items) (sets_of o) ≡ g) (kept : IsKept state block (map seen items) (sets_of o)) (disk place : ℕ) (is : disk ≡ suc place) where
  pub volume_arms_as : (was new : A) → was ≡ slice_index_or items place was → place < length items → (tear : Tear) (result : Bool) → Arms (seen was) tear result (seen new) → (IsTrue (seen was).steady → IsTrue result) → ArmsGroup g disk tear result (as_group state block (map seen (set items place new)) (sets_of o))
  volume_arms_as was new value lt tear result arms sure =
      subst (λ (x : IiDisks). ArmsGroup x disk tear result (as_group state block (map seen (set items place new)) (sets_of o))) view
      (subst (λ (l : List Seen). ArmsGroup (as_group state block (map seen items) (sets_of o)) disk tear result (as_group state block l (sets_of o))) (sym (map-set seen items place new)) (go o))
    where
      at : seen was ≡ slice_index_or (map seen items) place (seen was)
      at = ap seen value ∙ sym (get_or-map seen items place was (seen was) lt)

      lt' : place < length (map seen items)
      lt' = omega (arith, lt, length-map items seen)

      go : (o : Option (Held D)) → ArmsGroup (as_group state block (map seen items) (sets_of o)) disk tear result (as_group state block (set (map seen items) place (seen new)) (sets_of o))
      go None = arms_none state block (map seen items) disk place is (seen was) (seen new) at lt' tear result arms sure
      go (Some h) = arms_one state block (map seen items) (held_of h) disk place is (seen was) (seen new) at lt' tear result arms sure

  pub volume_arms_kept : (was new : A) → was ≡ slice_index_or items place was → place < length items → (tear : Tear) (result : Bool) → Arms (seen was) tear result (seen new) → IsKept state block (map seen (set items place new)) (sets_of o)
  volume_arms_kept was new value lt tear result arms =
      let at : seen was ≡ slice_index_or (map seen items) place (seen was) = ap seen value ∙ sym (get_or-map seen items place was (seen was) lt) in
      let lt' : place < length (map seen items) = omega (arith, lt, length-map items seen) in
      subst (λ (l : List Seen). IsKept state block l (sets_of o)) (sym (map-set seen items place new))
      (v_kept state block (map seen items) (sets_of o) place (seen was) (seen new) lt' at (size_m' state block (map seen items) (sets_of o) disk place is (seen was) (seen new) at lt' tear result arms) kept)

  module _ (h : Held D) (some : o ≡ Some h) (le : length items ≤ place) (c' : ChunkSet) (tear : Tear) (result : Bool) (arms : chunk.ArmsOne h.chunks (place - length items) tear result c') where
    own_there : IsTrue (is_some h.chunks.shadow)
    own_there = (held_some state block (map seen items) o h some kept).there

    at_set : place ≡ length (map seen items) + (place - length items)
    at_set = omega (arith, le, length-map items seen)

    pub set_arms_as : ArmsGroup g disk tear result (as_group state block (map seen items) (record (held_of h) { chunks = c' } ∷ []))
    set_arms_as =
        subst (λ (x : IiDisks). ArmsGroup x disk tear result (as_group state block (map seen items) (record (held_of h) { chunks = c' } ∷ []))) (ap (λ (x : Option (Held D)). as_group state block (map seen items) (sets_of x)) (sym some) ∙ view)
        (set_arms state block (map seen items) (held_of h) disk place is (place - length items) at_set own_there c' tear result arms)

    pub set_arms_kept_as : IsKept state block (map seen items) (record (held_of h) { chunks = c' } ∷ [])
    set_arms_kept_as = set_arms_kept state block (map seen items) (held_of h) disk place is (place - length items) at_set own_there c' tear result arms (kept_some state block (map seen items) o h some kept)

  pub no_set_arms : (tear : Tear) → o ≡ None → length items ≤ place → ArmsGroup g disk tear false g
  no_set_arms tear none le = arms_nothing g disk tear (
      ap (λ (x : IiDisks). slice_get (disks_of x) disk) (sym view)
      ∙ ap (λ (x : Option (Held D)). slice_get (disks_of (as_group state block (map seen items) (sets_of x))) disk) none
      ∙ ap (λ (n : ℕ). slice_get (disks_of (as_group state block (map seen items) [])) n) is
      ∙ get_right (map seen items) [] place (place - length items) (omega (arith, le, length-map items seen)))
