-- The disks of a group with one set, of which those of one volume and of the set change.
use Rattle.std.proofs.Common.{◌≡◌, ◌⊎◌, inl, inr, ℕ, ◌<◌, Bool, true, false, IsTrue, ◌&&◌, List, [], ◌∷◌, ◌++◌, length, map, set, slice_index, slice_index_or, Option, None, Some, is_some, refl, sym, ◌∙◌, ap, subst, arith}
use Rattle.std.specs.List.{list_all, flat_map}
use Rattle.std.proofs.Math.Seq.{map-set_same}
use Rattle.std.proofs.lemmas.List.{map-append, map-set, length-map, length-set, get_or-map, append-nil}
use Rattle.std.proofs.lemmas.List.Folds.{list_all-append, list_all-map}
use Rattle.avs_seg.specs.Causes.{Rose}
use Rattle.avs_dev.specs.Seen.{Seen, UsesTear}
use Rattle.avs_dev.specs.Devices.{NoneFell, OneRose, UsesOneTear}
use Rattle.avs_dev.proofs.SomeDisks.{steady_at, NoneFell-set, OneRose-set, UsesOneTear_at}
use Rattle.avs_chunk.specs.Disks.{Disks, AreSameDisks, AreSteady, AreStillArmed, OneUsed}
use Rattle.avs_chunk.specs.ChunkSet.{ChunkSet, disk_of, disks_there}
use Rattle.avs_chunk.specs.Calls.{disks_of}
use Rattle.avs_ii.specs.Held.{HeldSet}
use Rattle.avs_ii.proofs.Several.{fell_nil, fell_cons, fell_append, rose_here, rose_there, rose_left, rose_right, tear_here, tear_there, tear_left, tear_right}

pub disks_two : (c : ChunkSet) → IsTrue (is_some c.shadow) → disks_there c ≡ disk_of c.shadow ∷ c.areas.disk ∷ []
disks_two c there = go c.shadow c.areas.disk there
  where
    go : (shadow : Option Seen) (bitmap : Seen) → IsTrue (is_some shadow) → disks_there (record c { shadow = shadow; areas = record c.areas { disk = bitmap } }) ≡ disk_of shadow ∷ bitmap ∷ []
    go None bitmap there = cc
    go (Some d) bitmap there = refl

-- the tears that were armed are armed
pub record KeepTears (old new : Disks) : Type 0 where
  pub master : new.master.armed ≡ old.master.armed
  pub shadow : new.shadow.armed ≡ old.shadow.armed
  pub bitmap : new.bitmap.armed ≡ old.bitmap.armed

pub tears_kept : (old new : Disks) → AreStillArmed old new → KeepTears old new
tears_kept old new a = record { master = a.master.armed; shadow = a.shadow.armed; bitmap = a.bitmap.armed }

-- all disks of a group with one set
abbrev pub disks_one : Seen → List Seen → HeldSet → List Seen
disks_one state volumes h = state ∷ volumes ++ flat_map (λ (s : HeldSet). disks_there s.chunks) (h ∷ [])

pub form : {X : Type 0} (f : Seen → X) (state : Seen) (volumes : List Seen) (h : HeldSet) → IsTrue (is_some h.chunks.shadow) → map f (disks_one state volumes h) ≡ f state ∷ (map f volumes ++ (f (disk_of h.chunks.shadow) ∷ f h.chunks.areas.disk ∷ []))
form {X = X} f state volumes h there =
    ap (λ (l : List X). f state ∷ l) (map-append f volumes (disks_there h.chunks ++ []))
    ∙ ap (λ (l : List Seen). f state ∷ (map f volumes ++ map f l)) (append-nil (disks_there h.chunks) ∙ disks_two h.chunks there)

module _ (state : Seen) (volumes : List Seen) (v : ℕ) (m m' : Seen) (h h' : HeldSet) (inside : v < length volumes) (disk : m ≡ slice_index_or volumes v m) (there : IsTrue (is_some h.chunks.shadow)) (there' : IsTrue (is_some h'.chunks.shadow)) (same : AreSameDisks (disks_of h.chunks m) (disks_of h'.chunks m')) where
  abbrev old : List Seen
  old = disks_one state volumes h

  abbrev new : List Seen
  new = disks_one state (set volumes v m') h'

  abbrev faults : List ℕ
  faults = map (λ (d : Seen). d.faults) volumes

  inside_faults : v < length (map (λ (d : Seen). d.faults) volumes)
  inside_faults = omega (arith, length-map volumes (λ (d : Seen). d.faults), inside)

  fault_was : slice_index faults v ≡ m.faults
  fault_was = get_or-map (λ (d : Seen). d.faults) volumes v m 0 inside ∙ ap (λ (d : Seen). d.faults) (sym disk)

  faults_now : map (λ (d : Seen). d.faults) (set volumes v m') ≡ set faults v m'.faults
  faults_now = map-set (λ (d : Seen). d.faults) volumes v m'

  long : length (set faults v m'.faults) ≡ length faults
  long = length-set faults v m'.faults

  abbrev tail : HeldSet → List ℕ
  tail x = (disk_of x.chunks.shadow).faults ∷ x.chunks.areas.disk.faults ∷ []

  faults_as : (P : List ℕ → List ℕ → Type 0) → P (state.faults ∷ (faults ++ tail h)) (state.faults ∷ (set faults v m'.faults ++ tail h')) → P (map (λ (d : Seen). d.faults) old) (map (λ (d : Seen). d.faults) new)
  faults_as P p =
      subst (λ (l : List ℕ). P l (map (λ (d : Seen). d.faults) new)) (sym (form (λ (d : Seen). d.faults) state volumes h there))
      (subst (λ (l : List ℕ). P (state.faults ∷ (faults ++ tail h)) l) (sym (form (λ (d : Seen). d.faults) state (set volumes v m') h' there' ∙ ap (λ (l : List ℕ). state.faults ∷ (l ++ tail h')) faults_now)) p)

  pub three_later : NoneFell (map (λ (d : Seen). d.faults) old) (map (λ (d : Seen). d.faults) new)
  three_later = faults_as NoneFell (fell_cons state.faults state.faults _ _ (omega arith) (fell_append faults (set faults v m'.faults) (tail h) (tail h') (NoneFell-set faults v m'.faults inside_faults (omega (arith, fault_was, same.master.later))) (fell_cons _ _ _ _ same.shadow.later (fell_cons _ _ _ _ same.bitmap.later fell_nil))))

  pub three_same : AreStillArmed (disks_of h.chunks m) (disks_of h'.chunks m') → map (λ (d : Seen). d.faults) new ≡ map (λ (d : Seen). d.faults) old
  three_same a =
      form (λ (d : Seen). d.faults) state (set volumes v m') h' there'
      ∙ ap (λ (l : List ℕ). state.faults ∷ (l ++ tail h')) (map-set_same (λ (d : Seen). d.faults) volumes v m' m (a.master.faults ∙ ap (λ (d : Seen). d.faults) disk))
      ∙ ap (λ (n : ℕ). state.faults ∷ (faults ++ (n ∷ h'.chunks.areas.disk.faults ∷ []))) a.shadow.faults
      ∙ ap (λ (n : ℕ). state.faults ∷ (faults ++ ((disk_of h.chunks.shadow).faults ∷ n ∷ []))) a.bitmap.faults
      ∙ sym (form (λ (d : Seen). d.faults) state volumes h there)

  pub three_rose : Rose m.faults m'.faults ⊎ (Rose (disk_of h.chunks.shadow).faults (disk_of h'.chunks.shadow).faults ⊎ Rose h.chunks.areas.disk.faults h'.chunks.areas.disk.faults) → OneRose (map (λ (d : Seen). d.faults) old) (map (λ (d : Seen). d.faults) new)
  three_rose (inl r) = faults_as OneRose (rose_there _ _ _ _ (rose_left faults (set faults v m'.faults) (tail h) (tail h') long (OneRose-set faults v m'.faults inside_faults (omega (arith, r, fault_was)))))
  three_rose (inr (inl r)) = faults_as OneRose (rose_there _ _ _ _ (rose_right faults (set faults v m'.faults) (tail h) (tail h') long (rose_here _ _ _ _ r)))
  three_rose (inr (inr r)) = faults_as OneRose (rose_there _ _ _ _ (rose_right faults (set faults v m'.faults) (tail h) (tail h') long (rose_there _ _ _ _ (rose_here _ _ _ _ r))))

  abbrev armed : List Seen → List Bool
  armed l = map (λ (d : Seen). d.armed) l

  abbrev ends : HeldSet → List Bool
  ends x = (disk_of x.chunks.shadow).armed ∷ x.chunks.areas.disk.armed ∷ []

  armed_old : armed old ≡ state.armed ∷ (armed volumes ++ ends h)
  armed_old = form (λ (d : Seen). d.armed) state volumes h there

  armed_new : armed new ≡ state.armed ∷ (armed (set volumes v m') ++ ends h')
  armed_new = form (λ (d : Seen). d.armed) state (set volumes v m') h' there'

  armed_kept : m'.armed ≡ m.armed → armed (set volumes v m') ≡ armed volumes
  armed_kept kept = map-set_same (λ (d : Seen). d.armed) volumes v m' m (kept ∙ ap (λ (d : Seen). d.armed) disk)

  pub three_armed : KeepTears (disks_of h.chunks m) (disks_of h'.chunks m') → armed new ≡ armed old
  three_armed a =
      armed_new
      ∙ ap (λ (l : List Bool). state.armed ∷ (l ++ ends h')) (armed_kept a.master)
      ∙ ap (λ (b : Bool). state.armed ∷ (armed volumes ++ (b ∷ h'.chunks.areas.disk.armed ∷ []))) a.shadow
      ∙ ap (λ (b : Bool). state.armed ∷ (armed volumes ++ ((disk_of h.chunks.shadow).armed ∷ b ∷ []))) a.bitmap
      ∙ sym armed_old

  armed_as : UsesOneTear (state.armed ∷ (armed volumes ++ ends h)) (state.armed ∷ (armed (set volumes v m') ++ ends h')) → UsesOneTear (armed old) (armed new)
  armed_as p = subst (λ (l : List Bool). UsesOneTear l (armed new)) (sym armed_old) (subst (λ (l : List Bool). UsesOneTear (state.armed ∷ (armed volumes ++ ends h)) l) (sym armed_new) p)

  pub three_used : OneUsed (disks_of h.chunks m) (disks_of h'.chunks m') → UsesOneTear (armed old) (armed new)
  three_used (inl u) = armed_as (tear_there _ _ _ _ refl (tear_left (armed volumes) (armed (set volumes v m')) (ends h) (ends h') (UsesOneTear_at volumes v m' m inside (subst (λ (d : Seen). UsesTear d m') disk u.0)) (ap (λ (b : Bool). b ∷ h'.chunks.areas.disk.armed ∷ []) u.1 ∙ ap (λ (b : Bool). (disk_of h.chunks.shadow).armed ∷ b ∷ []) u.2)))
  three_used (inr (inl u)) = armed_as (tear_there _ _ _ _ refl (tear_right (armed volumes) (armed (set volumes v m')) (ends h) (ends h') (armed_kept u.1) (tear_here (disk_of h.chunks.shadow) (disk_of h'.chunks.shadow) _ _ u.0 (ap (λ (b : Bool). b ∷ []) u.2))))
  three_used (inr (inr u)) = armed_as (tear_there _ _ _ _ refl (tear_right (armed volumes) (armed (set volumes v m')) (ends h) (ends h') (armed_kept u.1) (tear_there _ _ _ _ u.2 (tear_here h.chunks.areas.disk h'.chunks.areas.disk _ _ u.0 refl))))

  -- steady disks
  abbrev all : List Bool → Bool
  all l = list_all (λ (b : Bool). b) l

  steady_as : (vs : List Seen) (x : HeldSet) → IsTrue (is_some x.chunks.shadow) → list_all (λ (d : Seen). d.steady) (disks_one state vs x) ≡ (state.steady && (list_all (λ (d : Seen). d.steady) vs && ((disk_of x.chunks.shadow).steady && (x.chunks.areas.disk.steady && true))))
  steady_as vs x t =
      ap (λ (b : Bool). state.steady && b) (list_all-append (λ (d : Seen). d.steady) vs (disks_there x.chunks ++ []) ∙ ap (λ (l : List Seen). list_all (λ (d : Seen). d.steady) vs && list_all (λ (d : Seen). d.steady) l) (append-nil (disks_there x.chunks) ∙ disks_two x.chunks t))

  volumes_steady : list_all (λ (d : Seen). d.steady) (set volumes v m') ≡ list_all (λ (d : Seen). d.steady) volumes
  volumes_steady =
      sym (list_all-map (λ (b : Bool). b) (λ (d : Seen). d.steady) (set volumes v m'))
      ∙ ap (λ (l : List Bool). list_all (λ (b : Bool). b) l) (map-set_same (λ (d : Seen). d.steady) volumes v m' m (same.master.steady ∙ ap (λ (d : Seen). d.steady) disk))
      ∙ list_all-map (λ (b : Bool). b) (λ (d : Seen). d.steady) volumes

  pub three_steady : list_all (λ (d : Seen). d.steady) new ≡ list_all (λ (d : Seen). d.steady) old
  three_steady =
      steady_as (set volumes v m') h' there'
      ∙ ap (λ (b : Bool). state.steady && (b && ((disk_of h'.chunks.shadow).steady && (h'.chunks.areas.disk.steady && true)))) volumes_steady
      ∙ ap (λ (b : Bool). state.steady && (list_all (λ (d : Seen). d.steady) volumes && (b && (h'.chunks.areas.disk.steady && true)))) same.shadow.steady
      ∙ ap (λ (b : Bool). state.steady && (list_all (λ (d : Seen). d.steady) volumes && ((disk_of h.chunks.shadow).steady && (b && true)))) same.bitmap.steady
      ∙ sym (steady_as volumes h there)

  pub three_are_steady : IsTrue (list_all (λ (d : Seen). d.steady) old) → AreSteady (disks_of h.chunks m)
  three_are_steady all_steady =
      let parts = split state.steady (list_all (λ (d : Seen). d.steady) volumes) (disk_of h.chunks.shadow).steady h.chunks.areas.disk.steady (subst (λ (b : Bool). IsTrue b) (steady_as volumes h there) all_steady) in
      record {
        master = subst (λ (d : Seen). IsTrue d.steady) (sym disk) (steady_at volumes v m' m inside parts.0);
        shadow = parts.1;
        bitmap = parts.2;
      }
    where
      split : (a b c d : Bool) → IsTrue (a && (b && (c && (d && true)))) → IsTrue b × IsTrue c × IsTrue d
      split true true true true t = (t, t, t)
      split true true true false t = cc
      split true true false d t = cc
      split true false c d t = cc
      split false b c d t = cc
