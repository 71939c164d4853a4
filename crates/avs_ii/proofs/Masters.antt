-- A write to a master behind the saves of its chunks.
use Rattle.std.proofs.Common.{◌≡◌, ◌≢◌, inl, inr, ℕ, ◌+◌, ◌-◌, ◌*◌, ◌/◌, ◌<◌, ◌≤◌, zero, suc, eqb, Bool, IsTrue, cond, List, length, Result, Ok, Err, refl, sym, ◌∙◌, ap, subst, arith}
use Rattle.std.proofs.lemmas.Bool.{cases_lt, ne_eqb}
use Rattle.avs_seg.specs.Image.{Image, blocks_of, put, IsMix, ChangesWithin}
use Rattle.avs_seg.specs.Segment.{seg_count, seg_len, first_segment}
use Rattle.avs_seg.proofs.Blocks.{same_images}
use Rattle.avs_seg.proofs.Bytes.{length-blocks_of}
use Rattle.avs_seg.proofs.Mixes.{IsMix-same}
use Rattle.avs_dev.specs.Seen.{Seen, IsTold, Writes, UsesTear}
use Rattle.avs_chunk.specs.States.{on_shadow, Splits, SplitsFirst, blocks_in}
use Rattle.avs_dev.proofs.Going.{spared_then}
use Rattle.avs_chunk.specs.Disks.{IsSameDisk, AreSteady, raised}
use Rattle.avs_chunk.specs.ChunkSet.{ChunkSet, disk_of, chunks_of, state_of, disk_state, shadow_image, IsKnown, DiffersInSplit}
use Rattle.avs_chunk.specs.Calls.{Saves, ChangesIn, disks_of, chunks_end}
use Rattle.avs_ii.specs.Saved.{IsSettledInMemory, WritesMaster}

-- the range of a write, in a set as large as its master
pub record InRange (s : ChunkSet) (m : Seen) (at : ℕ) (bytes : List ℕ) : Type 0 where
  pub some : 0 < length bytes
  pub whole : 512 * (length bytes / 512) ≡ length bytes
  pub inside : at + length bytes / 512 ≤ s.blocks
  pub size : m.size ≡ s.blocks

-- what is split does not stand on the shadow alone
pub settled_first : (old new : ChunkSet) (first end : ℕ) → new.blocks ≡ old.blocks → IsSettledInMemory old → SplitsFirst (state_of old) (state_of new) (chunks_of old) first end → IsSettledInMemory new
settled_first old new first end blocks settled s = record { none = λ c lt. each c (subst (λ (b : ℕ). c < seg_count b) blocks lt) }
  where
    each : (c : ℕ) → c < chunks_of old → state_of new c ≢ on_shadow
    each c lt = elim (cases_lt c first) [
      | inl low ↦ subst (λ (n : ℕ). n ≢ on_shadow) (sym (s.splits.outside c lt (inl low))) (settled.none c lt)
      | inr le ↦ elim (cases_lt c s.upto) [
        | inl within ↦ subst (λ (n : ℕ). n ≢ on_shadow) (sym (s.splits.inside c lt le within)) (λ e. omega (arith, e))
        | inr high ↦ subst (λ (n : ℕ). n ≢ on_shadow) (sym (s.splits.outside c lt (inr high))) (settled.none c lt)
      ]
    ]

abbrev pub all_first : (old new : ℕ → ℕ) (n first end : ℕ) → first ≤ end → Splits old new n first end → SplitsFirst old new n first end
all_first old new n first end le s = record { upto = end; low = le; high = omega arith; splits = s }

-- the master's disk keeps its blocks where no chunk stands on the shadow alone
image_kept : (old : ChunkSet) (m m' : Seen) (first end : ℕ) → m.size ≡ old.blocks → IsSettledInMemory old → IsTold m → ChangesIn old first end on_shadow m.image m'.image → m'.image ≡ m.image
image_kept old m m' first end size settled told changes = same_images m'.image m.image changes.same_length (λ i lt. changes.outside i (inr (inr (settled.none (i / 64) (omega (arith, lt, changes.same_length, told, size))))))

-- nothing is written where no chunk is in a state
blocks_in_none : (states : ℕ → ℕ) (blocks state first n : ℕ) → ((k : ℕ) → k < first + n → states k ≢ state) → blocks_in states blocks state first n ≡ 0
blocks_in_none states blocks state first zero none = refl
blocks_in_none states blocks state first (suc n) none =
    let here : cond (eqb (states (first + n)) state) (seg_len (first + n) blocks) 0 ≡ 0 = ap (λ (b : Bool). cond b (seg_len (first + n) blocks) 0) (ne_eqb (states (first + n)) state (none (first + n) (omega arith))) in
    omega (arith, here, blocks_in_none states blocks state first n (λ k lt. none k (omega arith)))

module _ (c : ChunkSet) (m : Seen) (at : ℕ) (bytes : List ℕ) (c' : ChunkSet) (m' : Seen) (range : InRange c m at bytes) (settled : IsSettledInMemory c) where
  len : ℕ
  len = length bytes / 512

  ordered : first_segment at ≤ chunks_end at (length bytes / 512)
  ordered = omega (arith, range.some, range.whole)

  blocks_len : length (blocks_of bytes) ≡ length bytes / 512
  blocks_len = length-blocks_of bytes

  -- the saves stopped
  pub failed_save : {T E T' E' : Type 0} (f : E) (f' : E') → Saves {T = T} {E = E} c m (first_segment at) (chunks_end at (length bytes / 512)) (Err f) c' m' → WritesMaster {T = T'} {E = E'} c m at bytes (Err f') c' m'
  failed_save f f' s =
      let kept : IsTold m → m'.image ≡ m.image = λ told. image_kept c m m' _ _ range.size settled told (s.master_within told) in
      record {
        stays = s.stays;
        disks = s.disks;
        causes = record { failed = s.causes.failed; armed = tt; used = s.causes.used };
        settled = settled_first c c' _ _ s.stays.blocks settled s.memory_stopped;
        done = λ told. tt;
        failed = λ told. subst (λ (img : Image). IsMix m.image at (blocks_of bytes) img) (sym (kept told)) (IsMix-same m.image at (blocks_of bytes));
        shadow = λ known told. (s.images known told).shadow;
        split = λ known told. tt;
        known = λ known told. tt;
        stopped = λ known told. record {
          saved = subst (λ (n : ℕ). SplitsFirst (disk_state c) (disk_state c') (chunks_of c) (first_segment at) (chunks_end at n)) (sym blocks_len) (s.stopped known told);
          before = λ lt. kept told;
          mix = subst (λ (img : Image). IsMix m.image at (blocks_of bytes) img) (sym (kept told)) (IsMix-same m.image at (blocks_of bytes));
        };
        counted = tt;
      }

  -- the saves are done, and the master is written
  module _ {T E : Type 0} (x : T) (s : Saves {T = T} {E = E} c m (first_segment at) (chunks_end at (length bytes / 512)) (Ok x) c' m') (m'' : Seen) where
    kept : IsTold m → m'.image ≡ m.image
    kept told = image_kept c m m' _ _ range.size settled told (s.master_within told)

    -- in the range all chunks are split, and elsewhere the master is as it was
    differs : IsKnown c → IsTold m → ChangesWithin at (length bytes / 512) m'.image m''.image → DiffersInSplit c' m'.image m''.image
    differs known told within = record {
      same = λ i lt other. elim (cases_lt i at) [
        | inl low ↦ within.outside i (inl low)
        | inr le ↦ elim (cases_lt i (at + length bytes / 512)) [
          | inl inner ↦ explode (other ((s.split known told).inside (i / 64) (omega (arith, lt, s.stays.blocks)) (omega (arith, le)) (omega (arith, inner))))
          | inr high ↦ within.outside i (inr high)
        ]
      ];
    }
      where
        explode : {P : Type 0} → ⊥ → P
        explode e = elim e [ ]

    shadow_kept : IsKnown c → IsTold m → ChangesWithin at (length bytes / 512) m'.image m''.image → shadow_image c' m''.image ≡ shadow_image c m.image
    shadow_kept known told within = s.stands m''.image (differs known told within) ∙ (s.images known told).shadow

    -- the causes of both together
    later_master : IsSameDisk m m' → (m''.size ≡ m'.size) → (m''.steady ≡ m'.steady) → (IsTold m' → IsTold m'') → m'.faults ≤ m''.faults → IsSameDisk m m''
    later_master d size steady told later = record { size = size ∙ d.size; steady = steady ∙ d.steady; told = λ t. told (d.told t); later = omega (arith, d.later, later) }

    armed_back : (a b : Bool) → a ≡ b → IsTrue a → IsTrue b
    armed_back a b same so = subst (λ (t : Bool). IsTrue t) same so

    written_kept : m'.written ≡ m.written
    written_kept = s.counts.master ∙ ap (λ (n : ℕ). raised m.written n) (blocks_in_none (state_of c) c.blocks on_shadow (first_segment at) (chunks_end at (length bytes / 512) - first_segment at) (λ k lt. settled.none k (omega (arith, lt, ordered, range.inside))))

    module _ {T' E' : Type 0} where
      written_ok : (y : T') → Writes {T = T'} {E = E'} m' at bytes (Ok y) m'' → WritesMaster {T = T'} {E = E'} c m at bytes (Ok y) c' m''
      written_ok y w = record {
        stays = s.stays;
        disks = record { master = later_master s.disks.master w.size w.steady w.told w.cause.later; shadow = s.disks.shadow; bitmap = s.disks.bitmap };
        causes = record {
          failed = tt;
          armed = record { master = spared_then m m' m'' s.causes.armed.master w.goes.done; shadow = s.causes.armed.shadow; bitmap = s.causes.armed.bitmap };
          used = λ steady. tt;
        };
        settled = settled_first c c' _ _ s.stays.blocks settled (all_first _ _ _ _ _ ordered s.memory);
        done = λ told. w.done (s.disks.master.told told) ∙ ap (λ (img : Image). put img at (blocks_of bytes)) (kept told);
        failed = λ told. tt;
        shadow = λ known told. shadow_kept known told (w.within (s.disks.master.told told));
        split = λ known told. s.split known told;
        known = λ known told. s.known known told;
        stopped = λ known told. tt;
        counted = omega (arith, w.counted, written_kept);
      }

      written_err : (f : E') → Writes {T = T'} {E = E'} m' at bytes (Err f) m'' → WritesMaster {T = T'} {E = E'} c m at bytes (Err f) c' m''
      written_err f w =
          let mixed : IsTold m → IsMix m.image at (blocks_of bytes) m''.image = λ told. subst (λ (img : Image). IsMix img at (blocks_of bytes) m''.image) (kept told) (w.failed (s.disks.master.told told)) in
          record {
            stays = s.stays;
            disks = record { master = later_master s.disks.master w.size w.steady w.told w.cause.later; shadow = s.disks.shadow; bitmap = s.disks.bitmap };
            causes = record {
              failed = inl (omega (arith, w.cause.failed, s.disks.master.later));
              armed = tt;
              used = λ steady. inl (used steady w);
            };
            settled = settled_first c c' _ _ s.stays.blocks settled (all_first _ _ _ _ _ ordered s.memory);
            done = λ told. tt;
            failed = mixed;
            shadow = λ known told. shadow_kept known told (w.within (s.disks.master.told told));
            split = λ known told. tt;
            known = λ known told. tt;
            stopped = λ known told. record {
              saved = all_first (disk_state c) (disk_state c') (chunks_of c) (first_segment at) (chunks_end at (length (blocks_of bytes))) (omega (arith, ordered, blocks_len)) (subst (λ (n : ℕ). Splits (disk_state c) (disk_state c') (chunks_of c) (first_segment at) (chunks_end at n)) (sym blocks_len) (s.split known told));
              before = λ lt. not_before lt;
              mix = mixed told;
            };
            counted = tt;
          }
        where
          used : AreSteady (disks_of c m) → Writes {T = T'} {E = E'} m' at bytes (Err f) m'' → UsesTear m m'' × ((disk_of c'.shadow).armed ≡ (disk_of c.shadow).armed) × (c'.areas.disk.armed ≡ c.areas.disk.armed)
          used steady w =
              let tear = w.spent (subst (λ (b : Bool). IsTrue b) (sym s.disks.master.steady) steady.master) in
              (record { was_armed = subst (λ (b : Bool). IsTrue b) s.causes.armed.master.armed tear.was_armed; is_used = tear.is_used }, s.causes.armed.shadow.armed, s.causes.armed.bitmap.armed)

          not_before : {P : Type 0} → chunks_end at (length (blocks_of bytes)) < chunks_end at (length (blocks_of bytes)) → P
          not_before lt = elim (less (chunks_end at (length (blocks_of bytes))) lt) [ ]
            where
              less : (n : ℕ) → n < n → ⊥
              less n lt = omega arith

-- ---- the same of the results of calls

saved_to : {T E : Type 0} (c : ChunkSet) (m : Seen) (at : ℕ) (bytes : List ℕ) (end : ℕ) (q r : Result T E) (c' : ChunkSet) (m' : Seen)
    → r ≡ q → end ≡ chunks_end at (length bytes / 512) → Saves c m (at / 64) end r c' m' → Saves c m (first_segment at) (chunks_end at (length bytes / 512)) q c' m'
saved_to {T = T} {E = E} c m at bytes end q r c' m' is till s =
    subst (λ (x : Result T E). Saves c m (first_segment at) (chunks_end at (length bytes / 512)) x c' m') is (subst (λ (n : ℕ). Saves c m (at / 64) n r c' m') till s)

pub behind_ok : {T E T' E' : Type 0} (c : ChunkSet) (m : Seen) (at : ℕ) (bytes : List ℕ) (end : ℕ) (c' : ChunkSet) (m' m'' : Seen) (x : T) (r : Result T E) (r' : Result T' E')
    → InRange c m at bytes → IsSettledInMemory c → r ≡ Ok x → end ≡ chunks_end at (length bytes / 512)
    → Saves c m (at / 64) end r c' m' → Writes m' at bytes r' m'' → WritesMaster c m at bytes r' c' m''
behind_ok c m at bytes end c' m' m'' x r (Ok y) range settled is till s w =
    written_ok c m at bytes c' m' range settled x (saved_to c m at bytes end (Ok x) r c' m' is till s) m'' y w
behind_ok c m at bytes end c' m' m'' x r (Err f) range settled is till s w =
    written_err c m at bytes c' m' range settled x (saved_to c m at bytes end (Ok x) r c' m' is till s) m'' f w

pub behind_err : {T E T' E' : Type 0} (c : ChunkSet) (m : Seen) (at : ℕ) (bytes : List ℕ) (end : ℕ) (c' : ChunkSet) (m' : Seen) (f : E) (r : Result T E) (f' : E')
    → InRange c m at bytes → IsSettledInMemory c → r ≡ Err f → end ≡ chunks_end at (length bytes / 512)
    → Saves c m (at / 64) end r c' m' → WritesMaster {T = T'} {E = E'} c m at bytes (Err f') c' m'
behind_err c m at bytes end c' m' f r f' range settled is till s =
    failed_save c m at bytes c' m' range settled f f' (saved_to c m at bytes end (Err f) r c' m' is till s)
