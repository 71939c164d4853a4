-- A write to the shadow: its chunks are saved, and then its range is written.
use Rattle.std.proofs.Common.{◌≡◌, inl, inr, ℕ, ◌+◌, ◌-◌, ◌*◌, ◌/◌, ◌^◌, ◌<◌, ◌≤◌, min, List, length, Option, is_some, Result, Ok, Err, refl, sym, ◌∙◌, ap, subst, arith}
use Rattle.avs_seg.specs.Image.{Image, put, blocks_of, IsMix}
use Rattle.avs_seg.specs.Segment.{first_segment}
use Rattle.avs_seg.proofs.Bytes.{length-blocks_of}
use Rattle.avs_seg.proofs.Mixes.{IsMix-same}
use Rattle.avs_dev.specs.Seen.{Seen, IsTold, Writes}
use Rattle.avs_flip.specs.Areas.{live}
use Rattle.avs_chunk.specs.States.{Splits, SplitsFirst, state_on}
use Rattle.avs_chunk.specs.ChunkSet.{ChunkSet, shadow_by, disk_of, disk_state, chunks_of, shadow_image, master_image, IsAlike, IsKnown}
use Rattle.avs_dev.proofs.Going.{spared_same}
use Rattle.avs_chunk.specs.Disks.{AreSameDisks, HasCauses, raised}
use Rattle.avs_chunk.specs.Calls.{disks_of, Stays, ChangesRange, chunks_end, to_master, to_shadow, to_bitmap, Saves, WritesShadow}
use Rattle.avs_chunk.proofs.SameDisks.{IsSameDisk-same, IsSameDisk-writes, raised-some, raised-then, raised_most, raised_least}
use Rattle.avs_chunk.proofs.Images.{shadow-put, shadow-mix, master-kept, alike-kept}
use Rattle.avs_chunk.proofs.Chains.{AreSameDisks-then, HasCauses-then}

module _ (a b : ChunkSet) (m m' : Seen) (at : ℕ) (bytes : List ℕ) (some : 0 < length bytes) (whole : 512 * (length bytes / 512) ≡ length bytes) (fits : at + length bytes / 512 ≤ a.blocks) where
  same_end : chunks_end at (length (blocks_of bytes)) ≡ chunks_end at (length bytes / 512)
  same_end = ap (λ (n : ℕ). chunks_end at n) (length-blocks_of bytes)

  -- no chunk behind the range, and the range not written
  pub WritesShadow-saves : {T E : Type 0} (y : E) → Saves {T = T} a m (first_segment at) (chunks_end at (length bytes / 512)) (Err y) b m' → WritesShadow {T = T} a m at bytes (Err y) b m'
  WritesShadow-saves y p = record {
    stays = p.stays;
    disks = p.disks;
    causes = p.causes;
    master = λ known told. (p.images known told).master;
    alike = λ known told alike. (p.images known told).alike alike;
    done = λ _ _. tt;
    split = λ _ _. tt;
    known = λ _ _. tt;
    memory = tt;
    stopped = λ known told. record {
      saved = subst (λ (e : ℕ). SplitsFirst (disk_state a) (disk_state b) (chunks_of a) (first_segment at) e) (sym same_end) (p.stopped known told);
      before = λ _. (p.images known told).shadow;
      mix = subst (λ (l : Image). IsMix (shadow_image a m.image) at (blocks_of bytes) l) (sym (p.images known told).shadow) (IsMix-same (shadow_image a m.image) at (blocks_of bytes));
    };
    memory_stopped = p.memory_stopped;
    master_within = p.master_within;
    shadow_within = λ told. record { same_length = (p.shadow_within told).same_length; outside = λ i _ apart. (p.shadow_within told).outside i apart; behind = (p.shadow_within told).behind };
    bitmap_within = p.bitmap_within;
    counts = tt;
    counts_stopped = p.counts_stopped;
  }

  module _ {S F : Type 0} (x : S) (X : Option Seen) (still : is_some X ≡ is_some b.shadow) (room : a.blocks ≤ (disk_of b.shadow).size)
      (p : Saves {E = F} a m (first_segment at) (chunks_end at (length bytes / 512)) (Ok x) b m') where
    abbrev pub written : ChunkSet
    written = record b { shadow = X }

    all_split : IsKnown a → IsTold m → (i : ℕ) → at ≤ i → i < at + length bytes / 512 → state_on (live b.areas) (i / 64) ≡ 2
    all_split known told i low high = (p.split known told).inside (i / 64) (omega arith) (omega arith) (omega arith)

    fits_b : at + length bytes / 512 ≤ b.blocks
    fits_b = omega (arith, fits, p.stays.blocks)

    told_b : IsKnown a → IsTold (disk_of b.shadow)
    told_b known = p.disks.shadow.told known.shadow

    long_b : IsKnown a → b.blocks ≤ length (disk_of b.shadow).image
    long_b known = omega (arith, room, told_b known, p.stays.blocks)

    there_disks : {T E : Type 0} (r : Result T E) → Writes (disk_of b.shadow) at bytes r (disk_of X) → AreSameDisks (disks_of b m') (disks_of written m')
    there_disks r w = record { master = IsSameDisk-same m'; shadow = IsSameDisk-writes (disk_of b.shadow) (disk_of X) at bytes r w; bitmap = IsSameDisk-same b.areas.disk }

    there_causes : {T E : Type 0} (r : Result T E) → Writes (disk_of b.shadow) at bytes r (disk_of X) → HasCauses (disks_of b m') r (disks_of written m')
    there_causes (Ok y) w = record { failed = tt; armed = record { master = spared_same m'; shadow = w.goes.done; bitmap = spared_same b.areas.disk }; used = λ _. tt }
    there_causes (Err y) w = record { failed = inr (inl w.cause.failed); armed = tt; used = λ steady. inr (inl (w.spent steady.shadow, refl, refl)) }

    there_stays : Stays a written
    there_stays = record {
      kind = p.stays.kind;
      blocks = p.stays.blocks;
      there = still ∙ p.stays.there;
      first = p.stays.first;
      len = p.stays.len;
      live_b = p.stays.live_b;
      staged = p.stays.staged;
      label = λ told label. record { label = (p.stays.label told label).label };
      not_back = λ told c inside not. let now = p.stays.not_back told c inside not in record { memory = now.memory; disk = now.disk };
      clean = λ told zeros. record { each = (p.stays.clean told zeros).each };
    }

    there_master : {T E : Type 0} (r : Result T E) → Writes (disk_of b.shadow) at bytes r (disk_of X) → IsKnown a → IsTold m → master_image written m'.image ≡ master_image a m.image
    there_master r w known told =
        master-kept b.blocks (live b.areas) m'.image (disk_of b.shadow).image at (length bytes / 512) (all_split known told) fits_b (disk_of X).image (w.within (told_b known))
        ∙ (p.images known told).master

    there_alike : {T E : Type 0} (r : Result T E) → Writes (disk_of b.shadow) at bytes r (disk_of X) → IsKnown a → IsTold m → IsAlike a m.image → IsAlike written m'.image
    there_alike r w known told alike = record {
      same = λ i lt one.
          alike-kept b.blocks (live b.areas) m'.image (disk_of b.shadow).image at (length bytes / 512) (all_split known told) fits_b (disk_of X).image (w.within (told_b known)) i one
          ∙ ((p.images known told).alike alike).same i lt one;
    }

    there_within : {T E : Type 0} (r : Result T E) → Writes (disk_of b.shadow) at bytes r (disk_of X) → IsTold (disk_of a.shadow) → ChangesRange a at (length bytes / 512) 0 (disk_of a.shadow).image (disk_of X).image
    there_within r w told =
        let saved = p.shadow_within told in
        let within = w.within (p.disks.shadow.told told) in
        record {
          same_length = within.same_length ∙ saved.same_length;
          outside = λ i out apart. within.outside i out ∙ saved.outside i apart;
          behind = λ i past. within.outside i (inr (omega (arith, fits, past))) ∙ saved.behind i past;
        }

    pub WritesShadow-write : {T E : Type 0} (r : Result T E) → Writes (disk_of b.shadow) at bytes r (disk_of X) → WritesShadow a m at bytes r written m'
    WritesShadow-write (Ok y) w = record {
      stays = there_stays;
      disks = AreSameDisks-then (disks_of a m) (disks_of b m') (disks_of written m') p.disks (there_disks (Ok y) w);
      causes = HasCauses-then (disks_of a m) (disks_of b m') (disks_of written m') (Ok y) p.disks p.causes.armed (there_causes (Ok y) w);
      master = there_master (Ok y) w;
      alike = there_alike (Ok y) w;
      done = λ known told.
          ap (λ (l : Image). shadow_by b.blocks (live b.areas) l m'.image) (w.done (told_b known))
          ∙ shadow-put b.blocks (live b.areas) m'.image (disk_of b.shadow).image at (length bytes / 512) (all_split known told) fits_b (blocks_of bytes) (length-blocks_of bytes) (long_b known)
          ∙ ap (λ (l : Image). put l at (blocks_of bytes)) (p.images known told).shadow;
      split = p.split;
      known = λ known told. record { shadow = w.told (told_b known); bitmap = (p.known known told).bitmap; step = record { each = (p.known known told).step.each } };
      memory = p.memory;
      stopped = λ _ _. tt;
      memory_stopped = tt;
      master_within = p.master_within;
      shadow_within = there_within (Ok y) w;
      bitmap_within = p.bitmap_within;
      counts = record {
        master = p.counts.master;
        shadow =
            w.counted
            ∙ sym (raised-some (disk_of b.shadow).written (length bytes / 512) (omega arith))
            ∙ ap (λ (n : ℕ). raised n (length bytes / 512)) p.counts.shadow
            ∙ raised-then (disk_of a.shadow).written (to_shadow a (first_segment at) (chunks_end at (length bytes / 512))) (length bytes / 512);
        bitmap = p.counts.bitmap;
      };
      counts_stopped = tt;
    }
    WritesShadow-write (Err y) w = record {
      stays = there_stays;
      disks = AreSameDisks-then (disks_of a m) (disks_of b m') (disks_of written m') p.disks (there_disks (Err y) w);
      causes = HasCauses-then (disks_of a m) (disks_of b m') (disks_of written m') (Err y) p.disks p.causes.armed (there_causes (Err y) w);
      master = there_master (Err y) w;
      alike = there_alike (Err y) w;
      done = λ _ _. tt;
      split = λ _ _. tt;
      known = λ _ _. tt;
      memory = tt;
      stopped = λ known told. record {
        saved = record { upto = chunks_end at (length (blocks_of bytes)); low = omega (arith, same_end); high = omega arith; splits = subst (λ (e : ℕ). Splits (disk_state a) (disk_state written) (chunks_of a) (first_segment at) e) (sym same_end) (p.split known told) };
        before = λ less. absurd (never less);
        mix = subst (λ (l : Image). IsMix l at (blocks_of bytes) (shadow_image written m'.image)) (p.images known told).shadow
            (shadow-mix b.blocks (live b.areas) m'.image (disk_of b.shadow).image at (length bytes / 512) (all_split known told) fits_b (blocks_of bytes) (disk_of X).image (length-blocks_of bytes) (w.failed (told_b known)));
      };
      memory_stopped = record { upto = chunks_end at (length bytes / 512); low = omega (arith, some, whole); high = omega arith; splits = p.memory };
      master_within = p.master_within;
      shadow_within = there_within (Err y) w;
      bitmap_within = p.bitmap_within;
      counts = tt;
      counts_stopped = record {
        master = most m.written m'.written (to_master a (first_segment at) (chunks_end at (length bytes / 512))) p.counts.master;
        shadow = most (disk_of a.shadow).written (disk_of X).written (to_shadow a (first_segment at) (chunks_end at (length bytes / 512))) (w.uncounted ∙ p.counts.shadow);
        bitmap = most a.areas.disk.written b.areas.disk.written (to_bitmap a (first_segment at) (chunks_end at (length bytes / 512))) p.counts.bitmap;
        master_kept = least m.written m'.written (to_master a (first_segment at) (chunks_end at (length bytes / 512))) p.counts.master;
        shadow_kept = least (disk_of a.shadow).written (disk_of X).written (to_shadow a (first_segment at) (chunks_end at (length bytes / 512))) (w.uncounted ∙ p.counts.shadow);
        bitmap_kept = least a.areas.disk.written b.areas.disk.written (to_bitmap a (first_segment at) (chunks_end at (length bytes / 512))) p.counts.bitmap;
      };
    }
      where
        most : (w w' k : ℕ) → w' ≡ raised w k → w' ≤ w + k
        most w w' k is = subst (λ (v : ℕ). v ≤ w + k) (sym is) (raised_most w k)

        least : (w w' k : ℕ) → w' ≡ raised w k → min w (2 ^ 64 - 1) ≤ w'
        least w w' k is = subst (λ (v : ℕ). min w (2 ^ 64 - 1) ≤ v) (sym is) (raised_least w k)

        never : {e : ℕ} → e < e → ⊥
        never {e} less = omega arith
