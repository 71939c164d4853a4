-- Chunks of a set in chunks are copied ahead, and its states are staged and made live.
use Rattle.std.proofs.Common.{◌≡◌, ◌≢◌, ◌⊎◌, inl, inr, ℕ, ◌+◌, ◌-◌, ◌*◌, ◌/◌, ◌%◌, ◌<◌, ◌≤◌, min, nat_lt, Bool, false, ◌&&◌, not, cond, eqb, List, [], length, Result, OnOk, ◌∙◌, sym, refl, ap, subst, arith}
use Rattle.std.proofs.lemmas.Bool.{cases_lt, false≢true}
use Rattle.std.proofs.lemmas.Result.{on_ok_weaker, on_err_weaker}
use Rattle.avs_seg.specs.Image.{Image, block_at}
use Rattle.avs_seg.specs.Segment.{seg_count}
use Rattle.avs_seg.proofs.Exits.{ok_exit}
use Rattle.avs_dev.specs.Seen.{Seen, IsTold, shown}
use Rattle.avs_dev.specs.Devices.{AllGoOn, raised}
use Rattle.avs_bits.specs.Bit.{bit_of}
use Rattle.avs_model.specs.ShadowSets.{is_compact}
use Rattle.avs_over.specs.Over.{OverSet}
use Rattle.avs_dev.proofs.Going.{shown_told}
use Rattle.avs_chunks.specs.States.{state_in, state_on}
use Rattle.avs_chunks.specs.ChunkSet as chunk
use Rattle.avs_chunks.specs.ChunkSet.{ChunkSet, disk_of, disk_state}
use Rattle.avs_chunks.specs.Disks.{Master, Shadow, three, disk_at}
use Rattle.avs_chunks.specs.Staging as staging
use Rattle.avs_chunks.specs.Staging.{AreSetTo, split_to}
use Rattle.avs_chunks.proofs.Going.{bitmap_goes}
use Rattle.avs_sets.specs.Says.{BlockSays}
use Rattle.avs_sets.specs.Sets as sets
use Rattle.avs_sets.specs.Sets.{SetSeen, SetRead, ChunkMap, ChunkPlace, OwnSlot, OverSlot, block_in, KeepsMaster, KeepsShadow}
use Rattle.avs_sets.proofs.OwnSlots.{own_block}
use Rattle.avs_sets.specs.Steps.{ShowsSame}
use Rattle.avs_held.specs.declared.held.Seat.{Seat}
use Rattle.avs_held.specs.Held.{area_of, own_map, chunk_set}
use Rattle.avs_held.specs.Rooms.{Mine, on_disks}
use Rattle.avs_held.specs.Staging.{part_blocks, KeepsStanding, StagesStates, split_state, CopiesTold, TurnsSet}
use Rattle.avs_held.proofs.Projected.{same_disk, shown_is, live_is, staged_is, plain_read, plain_master, plain_shadow, all_adds}
use Rattle.avs_held.proofs.Keeping.{IsSameHeld, shows_same, owned_kept}
use Rattle.avs_held.proofs.Settled.{same_held}
use Rattle.avs_held.proofs.ShadowReads.{master_same, shadow_same}
use Rattle.avs_entries.specs.Entries as entries

-- ---- states are staged

module _ (seat : Seat) (s s' : ChunkSet) (to : ℕ → ℕ) (first n : ℕ) {T E : Type 0} (r : Result T E) (plain : is_compact s.kind ≡ false) (a : staging.StagesParts s to first n r s') where
  held : IsSameHeld s s'
  held = record { kind = ap (λ (x : ChunkSet). x.kind) a.is; blocks = ap (λ (x : ChunkSet). x.blocks) a.is; live_b = ap (λ (x : ChunkSet). x.areas.live_b) a.is }

  goes : (m : Seen) → AllGoOn (disk_at s m) r (disk_at s' m)
  goes m = subst (λ (d : Seen). AllGoOn (disk_at s m) r (three m d s'.areas.disk)) (sym (ap (λ (x : ChunkSet). disk_of x.shadow) a.is)) (bitmap_goes m (disk_of s.shadow) s.areas.disk s'.areas.disk r a.goes)

  state_same : IsTold s.areas.disk → (c : ℕ) → disk_state s' c ≡ disk_state s c
  state_same told c = ap (λ (img : Image). state_on img c) (a.kept told).live

  known : chunk.IsKnown s → OnOk r (chunk.IsKnown s')
  known k = ok_exit r (record {
    shadow = subst (λ (d : Seen). IsTold d) (sym (ap (λ (x : ChunkSet). disk_of x.shadow) a.is)) k.shadow;
    bitmap = a.goes.lasts.told k.bitmap;
    step = record { each = λ c lt. ap (λ (x : ChunkSet). chunk.state_of x c) a.is ∙ k.step.each c (subst (λ (b : ℕ). c < seg_count b) held.blocks lt) ∙ sym (state_same k.bitmap c) };
  })

  reads_same : IsTold s.areas.disk → plain_read s' ≡ plain_read s
  reads_same told = λ p. record { blocks = (a.is p).blocks; state = λ c. state_on ((a.kept told).live p) c; stands = λ i. block_at (disk_of (a.is p).shadow).image i }

  on_same : (m : Image) (P : SetRead → Image → SetRead → Image → Type 0) → IsTold s.areas.disk → P (plain_read s) m (plain_read s) m → P (plain_read s) m (plain_read s') m
  on_same m P told is = subst (λ (x : SetRead). P (plain_read s) m x m) (sym (reads_same told)) is

  step : (says : BlockSays) (m over : Seen) (mine : ℕ → Type 0) → ShowsSame says mine (chunk_set seat s) m over r (chunk_set seat s') m over
  step says m over mine = shows_same says seat s s' m m over r held (goes m) (λ told. record { behind = λ i le. ap (λ (x : ChunkSet). block_at (disk_of x.shadow).image i) a.is })
      mine known
      (λ k told. on_same m.image KeepsMaster k.bitmap (master_same (plain_read s) m.image))
      (λ k told. on_same m.image KeepsShadow k.bitmap (shadow_same (plain_read s) m.image))
      (λ k c lt. state_same k.bitmap c)

  live_same : IsTold s.areas.disk → area_of s'.areas s.areas.live_b ≡ area_of s.areas s.areas.live_b
  live_same told = live_is s'.areas s.areas.live_b (a.goes.lasts.told told) (sym held.live_b) ∙ (a.kept told).live ∙ sym (live_is s.areas s.areas.live_b told refl)

  pub stages_set : StagesStates (chunk_set seat s) to first n r (chunk_set seat s')
  stages_set = record {
    step = λ says m o owned. step says m o.disk (Mine (chunk_set seat s) o);
    rest = λ p. record {
      slot = seat.slot;
      kind = (a.is p).kind;
      master = seat.master;
      size = record { blocks = (a.is p).blocks; own = seat.own };
      over = seat.over;
      shadow = (a.is p).shadow;
      bitmap = s'.areas.disk;
      area = λ b. own_map (λ c. state_on (area_of s'.areas b) c);
      memory = own_map (λ c. state_in (a.is p).memory c);
      next = own_map (λ c. state_in s'.next c);
      live_b = (a.is p).areas.live_b;
    };
    live = λ told. ap (λ (img : Image). own_map (λ c. state_on img c)) (live_same told);
    label = λ told. ap (λ (img : Image). block_at img 0) (shown_told s'.areas.disk (a.goes.lasts.told told)) ∙ (a.kept told).label ∙ sym (ap (λ (img : Image). block_at img 0) (shown_told s.areas.disk told));
    staged = λ told. on_ok_weaker r (λ x. record {
      states = record {
        inside = λ c low high. ap (λ (img : Image). state_on img c) (staged_is s'.areas (a.goes.lasts.told told)) ∙ x.inside c low high;
        outside = λ c out. ap (λ (img : Image). state_on img c) (staged_is s'.areas (a.goes.lasts.told told)) ∙ x.outside c out ∙ sym (ap (λ (img : Image). state_on img c) (staged_is s.areas told));
      };
      places = standing (λ c. state_on (area_of s'.areas (not s'.areas.live_b)) c);
    }) (a.staged told);
    held = on_ok_weaker r (λ x. record { states = record { inside = x.inside; outside = x.outside }; places = standing (λ c. state_in s'.next c) }) a.held;
    written = on_ok_weaker r (λ is. is ∙ ap (λ (k : ℕ). raised s.areas.disk.written k) (sym blocks_is)) a.written;
    most = on_err_weaker r (λ le. subst (λ (k : ℕ). s'.areas.disk.written ≤ s.areas.disk.written + k) (sym blocks_is) le) a.most;
  }
    where
      blocks_is : part_blocks (chunk_set seat s) first n ≡ n
      blocks_is = ap (λ (b : Bool). cond b (min (16 * n) (entries.area_len (seg_count s.blocks) - 16 * first)) n) plain

      standing : (f : ℕ → ℕ) → KeepsStanding (chunk_set seat s) (own_map f) (2048 * first) (2048 * (first + n))
      standing f = record { own = λ c low high some some'. refl; ahead = λ c low high some none. refl }

-- with the chunks of a part split that are told
pub split_same : (seat : Seat) (s : ChunkSet) (part : ℕ) (bits : List ℕ) → is_compact s.kind ≡ false → split_to (chunk.chunks_of s) bits (2048 * part) (chunk.state_of s) ≡ split_state (chunk_set seat s) part bits
split_same seat s part bits plain = sym (ap (λ (b : Bool). λ (c : ℕ). cond (nat_lt c (chunk.chunks_of s) && bit_of bits (c - 2048 * part)) (cond (b && eqb (chunk.state_of s c) 0) (state_in s.next c) 2) (chunk.state_of s c)) plain)

-- ---- chunks are copied ahead

module _ (seat : Seat) (s s' : ChunkSet) (m m' : Seen) (told : ℕ → Bool) (first end : ℕ) {T E : Type 0} (r : Result T E) (a : staging.CopiesTold s m told first end r s' m') where
  told_now : IsTold (disk_of s.shadow) → IsTold (disk_of s'.shadow)
  told_now is = (a.keeps.goes.lasts Shadow).told is

  copied_known : chunk.IsKnown s → OnOk r (chunk.IsKnown s')
  copied_known k = ok_exit r (subst (λ (x : ChunkSet). chunk.IsKnown x) (sym a.is) (record { shadow = told_now k.shadow; bitmap = k.bitmap; step = record { each = k.step.each } }))

  copies_step : (says : BlockSays) (over : Seen) (mine : ℕ → Type 0) → ShowsSame says mine (chunk_set seat s) m over r (chunk_set seat s') m' over
  copies_step says over mine = shows_same says seat s s' m m' over r (same_held s s' a.keeps.shape) a.keeps.goes a.keeps.behind mine copied_known
      (λ k is. plain_master s s' m.image m'.image (a.keeps.blocks k is))
      (λ k is. plain_shadow s s' m.image m'.image (a.keeps.blocks k is))
      (λ k c lt. ap (λ (x : ChunkSet). disk_state x c) a.is)

  -- what stands elsewhere
  elsewhere : (p : ℕ) → ((c : ℕ) → first ≤ c → c < end → OwnSlot c ≢ OwnSlot p) → (p < first) ⊎ (end ≤ p)
  elsewhere p other = elim (cases_lt p first) [
    | inl low ↦ inl low
    | inr from ↦ elim (cases_lt p end) [
      | inl inside ↦ absurd (other p from inside refl)
      | inr past ↦ inr past
    ]
  ]

  shadow_now : IsTold (disk_of s.shadow) → shown (sets.disk_of s'.shadow) ≡ (disk_of s'.shadow).image
  shadow_now was = shown_is s' (told_now was)

  others : (over : Image) → IsTold (disk_of s.shadow) → (place : ChunkPlace) → ((c : ℕ) → first ≤ c → c < end → OwnSlot c ≢ place) → (i : ℕ)
      → block_in (shown (sets.disk_of s'.shadow)) over place i ≡ block_in (shown (sets.disk_of s.shadow)) over place i
  others over was (OverSlot p) other i = refl
  others over was (OwnSlot p) other i =
      let chunk_is : (64 * p + i % 64) / 64 ≡ p = omega arith in
      ap (λ (img : Image). block_at img (64 * p + i % 64)) (shadow_now was)
      ∙ a.outside was (64 * p + i % 64) (subst (λ (c : ℕ). (c < first) ⊎ (end ≤ c)) (sym chunk_is) (elsewhere p other))
      ∙ sym (ap (λ (img : Image). block_at img (64 * p + i % 64)) (shown_is s was))

  pub copies_set : (o : OverSet) → is_compact s.kind ≡ false → CopiesTold (on_disks (chunk_set seat s) m o) told first end r (on_disks (chunk_set seat s') m' o)
  copies_set o plain = record {
    step = λ owned says. copies_step says o.disk (Mine (chunk_set seat s) o);
    rest = λ p. record {
      slot = seat.slot;
      kind = (a.is p).kind;
      master = seat.master;
      size = record { blocks = (a.is p).blocks; own = seat.own };
      over = seat.over;
      shadow = s'.shadow;
      bitmap = (a.is p).areas.disk;
      area = λ b. own_map (λ c. state_on (area_of (a.is p).areas b) c);
      memory = own_map (λ c. state_in (a.is p).memory c);
      next = own_map (λ c. state_in s'.next c);
      live_b = (a.is p).areas.live_b;
    };
    chunks = λ is. (ap (λ (x : ChunkSet). own_map (λ c. state_in x.next c)) a.is, refl);
    master = λ p. cond (eqb (length (a.master p)) ((a.keeps.goes.lasts Master).size p)) (a.master p) [];
    owned = owned_kept seat s s' m m' o;
    outside = λ is told i out.
        let was = subst (λ (d : Seen). IsTold d) (same_disk s.shadow) told in
        ap (λ (img : Image). block_at img i) (shadow_now was) ∙ a.outside was i out ∙ sym (ap (λ (img : Image). block_at img i) (shown_is s was));
    copied = λ m_told is over_told.
        let was = subst (λ (d : Seen). IsTold d) (same_disk s.shadow) is in
        on_ok_weaker r (λ each. record {
          each = λ i lt low high ahead. own_block (shown (sets.disk_of s'.shadow)) (shown o.disk) i ∙ ap (λ (img : Image). block_at img i) (shadow_now was) ∙ each i lt low high ahead ∙ sym (ap (λ (img : Image). block_at img i) (shown_told m m_told));
          others = λ place is other i. others (shown o.disk) was place other i;
          splits = λ compact c lt low high ahead. absurd (false≢true (sym plain ∙ compact));
        }) (a.copied m_told was);
    adds = λ is. all_adds seat s s' m m' o.disk r (staging.ahead_work told s first (end - first)) a.adds;
  }

-- ---- the staged area is live

pub turns_set : (seat : Seat) (s s' : ChunkSet) → staging.TurnsSet s s' → TurnsSet (chunk_set seat s) (chunk_set seat s')
turns_set seat s s' a = record {
  rest = λ p. record {
    slot = seat.slot;
    kind = (a.is p).kind;
    master = seat.master;
    size = record { blocks = (a.is p).blocks; own = seat.own };
    over = seat.over;
    shadow = (a.is p).shadow;
    bitmap = (a.is p).areas.disk;
    area = λ b. own_map (λ c. state_on (area_of (a.is p).areas b) c);
    memory = own_map (λ c. state_in s'.memory c);
    next = own_map (λ c. state_in (a.is p).next c);
    live_b = (a.is p).areas.live_b;
  };
  memory = λ ok. ap (λ (x : ChunkSet). own_map (λ c. state_in x.memory c)) a.is;
}
