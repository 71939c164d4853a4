-- One save after another.
use Rattle.std.proofs.Common.{◌≡◌, ◌≢◌, ◌⊎◌, inl, inr, ℕ, ◌+◌, ◌-◌, ◌/◌, ◌^◌, ◌<◌, ◌≤◌, min, Bool, cond, eqb, IsTrue, Result, Ok, Err, refl, sym, ◌∙◌, ap, subst, arith}
use Rattle.std.proofs.lemmas.Bool.{cases_lt}
use Rattle.avs_seg.specs.Image.{Image, ChangesWithin}
use Rattle.avs_seg.specs.Segment.{seg_count, seg_len}
use Rattle.avs_seg.proofs.Changes.{ChangesWithin-same, ChangesWithin_union, ChangesWithin_wider}
use Rattle.avs_dev.specs.Seen.{Seen, IsTold, UsesTear}
use Rattle.avs_flip.specs.Areas.{live_from}
use Rattle.avs_chunk.specs.States.{Splits, sum_from}
use Rattle.avs_chunk.specs.ChunkSet.{ChunkSet, disk_of, state_of, disk_state, chunks_of, CanSave}
use Rattle.avs_dev.proofs.Going.{spared_same, spared_then}
use Rattle.avs_chunk.specs.Disks.{Disks, AreSameDisks, AreSteady, AreStillArmed, OneUsed, HasCauses, raised}
use Rattle.avs_chunk.specs.Calls.{disks_of, Stays, KeepsImages, ChangesIn, state_block, to_master, to_shadow, to_bitmap, Saves}
use Rattle.avs_chunk.proofs.SameDisks.{IsSameDisk-same, IsSameDisk-then, raised-none, raised-then, raised_most, raised_least, Rose-later, cond_is, cond_not}
use Rattle.avs_chunk.proofs.Images.{is_2_not_0, is_2_not_3}
use Rattle.avs_chunk.proofs.Saving.{stands, Stays-same, Splits-none, Splits-one, Splits-then, ChangesIn-same, ChangesIn-wider}
use Rattle.avs_chunk.proofs.Sums.{sum_none, sum_one, sum_more, sum_less}

pub Stays-then : (a b c : ChunkSet) → (IsTold a.areas.disk → IsTold b.areas.disk) → Stays a b → Stays b c → Stays a c
Stays-then a b c told p q = record {
  kind = q.kind ∙ p.kind;
  blocks = q.blocks ∙ p.blocks;
  there = q.there ∙ p.there;
  first = q.first ∙ p.first;
  len = q.len ∙ p.len;
  live_b = q.live_b ∙ p.live_b;
  staged = λ t. q.staged (told t) ∙ p.staged t;
  label = λ t label. q.label (told t) (p.label t label);
  not_back = λ t d inside not. q.not_back (told t) d (subst (λ (n : ℕ). d < seg_count n) (sym p.blocks) inside) (p.not_back t d inside not);
  clean = λ t zeros. q.clean (told t) (p.clean t zeros);
}

pub AreSameDisks-same : (d : Disks) → AreSameDisks d d
AreSameDisks-same d = record { master = IsSameDisk-same d.master; shadow = IsSameDisk-same d.shadow; bitmap = IsSameDisk-same d.bitmap }

pub AreSameDisks-then : (a b c : Disks) → AreSameDisks a b → AreSameDisks b c → AreSameDisks a c
AreSameDisks-then a b c p q = record {
  master = IsSameDisk-then a.master b.master c.master p.master q.master;
  shadow = IsSameDisk-then a.shadow b.shadow c.shadow p.shadow q.shadow;
  bitmap = IsSameDisk-then a.bitmap b.bitmap c.bitmap p.bitmap q.bitmap;
}

pub AreSteady-still : (a b : Disks) → AreSameDisks a b → AreSteady a → AreSteady b
AreSteady-still a b p steady = record {
  master = subst (λ (t : Bool). IsTrue t) (sym p.master.steady) steady.master;
  shadow = subst (λ (t : Bool). IsTrue t) (sym p.shadow.steady) steady.shadow;
  bitmap = subst (λ (t : Bool). IsTrue t) (sym p.bitmap.steady) steady.bitmap;
}

used_then : (d e f : Seen) → e.armed ≡ d.armed → UsesTear e f → UsesTear d f
used_then d e f same used = record { was_armed = subst (λ (t : Bool). IsTrue t) same used.was_armed; is_used = used.is_used }

pub OneUsed-then : (a b c : Disks) → AreStillArmed a b → OneUsed b c → OneUsed a c
OneUsed-then a b c armed used = elim used [
  | inl m ↦ inl (used_then a.master b.master c.master armed.master.armed m.0, m.1 ∙ armed.shadow.armed, m.2 ∙ armed.bitmap.armed)
  | inr rest ↦ inr (elim rest [
    | inl s ↦ inl (used_then a.shadow b.shadow c.shadow armed.shadow.armed s.0, s.1 ∙ armed.master.armed, s.2 ∙ armed.bitmap.armed)
    | inr m ↦ inr (used_then a.bitmap b.bitmap c.bitmap armed.bitmap.armed m.0, m.1 ∙ armed.master.armed, m.2 ∙ armed.shadow.armed)
  ])
]

pub AreStillArmed-then : (a b c : Disks) → AreStillArmed a b → AreStillArmed b c → AreStillArmed a c
AreStillArmed-then a b c p q = record {
  master = spared_then a.master b.master c.master p.master q.master;
  shadow = spared_then a.shadow b.shadow c.shadow p.shadow q.shadow;
  bitmap = spared_then a.bitmap b.bitmap c.bitmap p.bitmap q.bitmap;
}

pub HasCauses-then : {T E : Type 0} (a b c : Disks) (r : Result T E) → AreSameDisks a b → AreStillArmed a b → HasCauses b r c → HasCauses a r c
HasCauses-then a b c (Ok y) same armed q = record {
  failed = tt;
  armed = AreStillArmed-then a b c armed q.armed;
  used = λ _. tt;
}
HasCauses-then a b c (Err e) same armed q = record {
  failed = elim q.failed [
    | inl m ↦ inl (Rose-later a.master.faults b.master.faults c.master.faults same.master.later m)
    | inr rest ↦ inr (elim rest [
      | inl s ↦ inl (Rose-later a.shadow.faults b.shadow.faults c.shadow.faults same.shadow.later s)
      | inr m ↦ inr (Rose-later a.bitmap.faults b.bitmap.faults c.bitmap.faults same.bitmap.later m)
    ])
  ];
  armed = tt;
  used = λ steady. OneUsed-then a b c armed (q.used (AreSteady-still a b same steady));
}

pub KeepsImages-then : (a : ChunkSet) (l : Image) (b : ChunkSet) (l' : Image) (c : ChunkSet) (l'' : Image) → KeepsImages a l b l' → KeepsImages b l' c l'' → KeepsImages a l c l''
KeepsImages-then a l b l' c l'' p q = record {
  shadow = q.shadow ∙ p.shadow;
  master = q.master ∙ p.master;
  alike = λ alike. q.alike (p.alike alike);
}

-- ---- no chunk, and one that is split already

pub Saves-none : {T E : Type 0} (x : T) (s : ChunkSet) (m : Seen) (a : ℕ) → Saves {E = E} s m a a (Ok x) s m
Saves-none x s m a = record {
  stays = Stays-same s;
  disks = AreSameDisks-same (disks_of s m);
  causes = record { failed = tt; armed = record { master = spared_same m; shadow = spared_same (disk_of s.shadow); bitmap = spared_same s.areas.disk }; used = λ _. tt };
  images = λ _ _. record { shadow = refl; master = refl; alike = λ alike. alike };
  stands = stands s m.image;
  split = λ _ _. Splits-none (disk_state s) (chunks_of s) a;
  known = λ known _. known;
  memory = Splits-none (state_of s) (chunks_of s) a;
  stopped = λ _ _. tt;
  memory_stopped = tt;
  master_within = λ _. ChangesIn-same s a a 3 m.image m.image refl;
  shadow_within = λ _. ChangesIn-same s a a 0 (disk_of s.shadow).image (disk_of s.shadow).image refl;
  bitmap_within = λ _. ChangesWithin-same _ _ s.areas.disk.image;
  counts = record {
    master = sym (raised-none m.written (to_master s a a) (sum_none (λ d. cond (eqb (state_of s d) 3) (seg_len d s.blocks) 0) a));
    shadow = sym (raised-none (disk_of s.shadow).written (to_shadow s a a) (sum_none (λ d. cond (eqb (state_of s d) 0) (seg_len d s.blocks) 0) a));
    bitmap = sym (raised-none s.areas.disk.written (to_bitmap s a a) (sum_none (λ d. cond (eqb (state_of s d) 2) 0 1) a));
  };
  counts_stopped = tt;
}

pub Saves-split : {T E : Type 0} (x : T) (s : ChunkSet) (m : Seen) (c : ℕ) → c < chunks_of s → state_of s c ≡ 2 → Saves {E = E} s m c (c + 1) (Ok x) s m
Saves-split x s m c lt is = record {
  stays = Stays-same s;
  disks = AreSameDisks-same (disks_of s m);
  causes = record { failed = tt; armed = record { master = spared_same m; shadow = spared_same (disk_of s.shadow); bitmap = spared_same s.areas.disk }; used = λ _. tt };
  images = λ _ _. record { shadow = refl; master = refl; alike = λ alike. alike };
  stands = stands s m.image;
  split = λ known _. Splits-one (disk_state s) (disk_state s) (chunks_of s) c (sym (known.step.each c lt) ∙ is) (λ d _ _. refl);
  known = λ known _. known;
  memory = Splits-one (state_of s) (state_of s) (chunks_of s) c is (λ d _ _. refl);
  stopped = λ _ _. tt;
  memory_stopped = tt;
  master_within = λ _. ChangesIn-same s c (c + 1) 3 m.image m.image refl;
  shadow_within = λ _. ChangesIn-same s c (c + 1) 0 (disk_of s.shadow).image (disk_of s.shadow).image refl;
  bitmap_within = λ _. ChangesWithin-same _ _ s.areas.disk.image;
  counts = record {
    master = sym (raised-none m.written (to_master s c (c + 1)) (sum_one (λ d. cond (eqb (state_of s d) 3) (seg_len d s.blocks) 0) c ∙ cond_not (state_of s c) 3 (seg_len c s.blocks) 0 (is_2_not_3 _ is)));
    shadow = sym (raised-none (disk_of s.shadow).written (to_shadow s c (c + 1)) (sum_one (λ d. cond (eqb (state_of s d) 0) (seg_len d s.blocks) 0) c ∙ cond_not (state_of s c) 0 (seg_len c s.blocks) 0 (is_2_not_0 _ is)));
    bitmap = sym (raised-none s.areas.disk.written (to_bitmap s c (c + 1)) (sum_one (λ d. cond (eqb (state_of s d) 2) 0 1) c ∙ cond_is (state_of s c) 2 0 1 is));
  };
  counts_stopped = tt;
}

-- ---- the chunks up to one, and then that one

ChangesIn-then : (a b : ChunkSet) (f c e state n : ℕ) (img mid new : Image) → b.blocks ≡ a.blocks → f ≤ c → c ≤ e → e ≤ n → Splits (state_of a) (state_of b) n f c → ChangesIn a f c state img mid → ChangesIn b c e state mid new → ChangesIn a f e state img new
ChangesIn-then a b f c e state n img mid new same low high inside memory p q = record {
  same_length = q.same_length ∙ p.same_length;
  outside = λ i out. q.outside i (second i out) ∙ p.outside i (first i out);
  behind = λ i past. q.behind i (subst (λ (k : ℕ). k ≤ i) (sym same) past) ∙ p.behind i past;
}
  where
    first : (i : ℕ) → (i / 64 < f) ⊎ ((e ≤ i / 64) ⊎ (state_of a (i / 64) ≢ state)) → (i / 64 < f) ⊎ ((c ≤ i / 64) ⊎ (state_of a (i / 64) ≢ state))
    first i (inl less) = inl less
    first i (inr (inl more)) = inr (inl (omega arith))
    first i (inr (inr other)) = inr (inr other)

    second : (i : ℕ) → (i / 64 < f) ⊎ ((e ≤ i / 64) ⊎ (state_of a (i / 64) ≢ state)) → (i / 64 < c) ⊎ ((e ≤ i / 64) ⊎ (state_of b (i / 64) ≢ state))
    second i (inl less) = inl (omega arith)
    second i (inr (inl more)) = inr (inl more)
    second i (inr (inr other)) = elim (cases_lt (i / 64) c) [
      | inl less ↦ inl less
      | inr more ↦ elim (cases_lt (i / 64) n) [
        | inl within ↦ inr (inr (λ is. other (sym (memory.outside (i / 64) within (inr more)) ∙ is)))
        | inr past ↦ inr (inl (omega arith))
      ]
    ]

module _ {T E S F : Type 0} (x : S) (a b s : ChunkSet) (m m' m'' : Seen) (f c : ℕ) (r : Result T E) (low : f ≤ c) (lt : c < chunks_of a)
    (p : Saves {E = F} a m f c (Ok x) b m') (q : Saves b m' c (c + 1) r s m'') where
  told_bitmap : IsTold a.areas.disk → IsTold b.areas.disk
  told_bitmap told = p.disks.bitmap.told told

  same_count : chunks_of b ≡ chunks_of a
  same_count = ap seg_count p.stays.blocks

  -- the term of this chunk is the same before and after
  state_same : state_of b c ≡ state_of a c
  state_same = p.memory.outside c lt (inr (omega arith))

  sum_then : (g : ℕ → ℕ → ℕ) → ((d : ℕ) → d ≡ c → g (state_of b d) d ≡ g (state_of a d) d) → sum_from (λ d. g (state_of a d) d) f (c - f) + sum_from (λ d. g (state_of b d) d) c (c + 1 - c) ≡ sum_from (λ d. g (state_of a d) d) f (c + 1 - f)
  sum_then g same =
      ap (λ (n : ℕ). sum_from (λ d. g (state_of a d) d) f (c - f) + n) (sum_one (λ d. g (state_of b d) d) c ∙ same c refl)
      ∙ sym (sum_more (λ d. g (state_of a d) d) f c low)

  same_term : (g : ℕ → ℕ → ℕ) (d : ℕ) → d ≡ c → g (state_of b d) d ≡ g (state_of a d) d
  same_term g d is = ap (λ (k : ℕ). g (state_of b k) k) is ∙ ap (λ (k : ℕ). g k c) state_same ∙ sym (ap (λ (k : ℕ). g (state_of a k) k) is)

  sum_master : to_master a f c + to_master b c (c + 1) ≡ to_master a f (c + 1)
  sum_master =
      ap (λ (n : ℕ). to_master a f c + sum_from (λ d. cond (eqb (state_of b d) 3) (seg_len d n) 0) c (c + 1 - c)) p.stays.blocks
      ∙ sum_then (λ k d. cond (eqb k 3) (seg_len d a.blocks) 0) (same_term (λ k d. cond (eqb k 3) (seg_len d a.blocks) 0))

  sum_shadow : to_shadow a f c + to_shadow b c (c + 1) ≡ to_shadow a f (c + 1)
  sum_shadow =
      ap (λ (n : ℕ). to_shadow a f c + sum_from (λ d. cond (eqb (state_of b d) 0) (seg_len d n) 0) c (c + 1 - c)) p.stays.blocks
      ∙ sum_then (λ k d. cond (eqb k 0) (seg_len d a.blocks) 0) (same_term (λ k d. cond (eqb k 0) (seg_len d a.blocks) 0))

  sum_bitmap : to_bitmap a f c + to_bitmap b c (c + 1) ≡ to_bitmap a f (c + 1)
  sum_bitmap = sum_then (λ k d. cond (eqb k 2) 0 1) (same_term (λ k d. cond (eqb k 2) 0 1))

  live_same : live_from b.areas ≡ live_from a.areas
  live_same =
      ap (λ (t : Bool). cond t (b.areas.first + b.areas.len) b.areas.first) p.stays.live_b
      ∙ ap (λ (n : ℕ). cond a.areas.live_b (n + b.areas.len) n) p.stays.first
      ∙ ap (λ (n : ℕ). cond a.areas.live_b (a.areas.first + n) a.areas.first) p.stays.len

  bitmap_then : IsTold a.areas.disk → ChangesWithin (state_block a f) (state_block a (c + 1 + 2047) - state_block a f) a.areas.disk.image s.areas.disk.image
  bitmap_then told = ChangesWithin_union (state_block a f) (state_block a (c + 2047) - state_block a f) (state_block b c) (state_block b (c + 1 + 2047) - state_block b c) (state_block a f) (state_block a (c + 1 + 2047) - state_block a f)
      a.areas.disk.image b.areas.disk.image s.areas.disk.image
      (omega arith) (omega arith) (omega (arith, live_same)) (omega (arith, live_same)) (p.bitmap_within told) (q.bitmap_within (told_bitmap told))

  pub Saves-then : Saves a m f (c + 1) r s m''
  Saves-then = go r q
    where
      go : (r : Result T E) → Saves b m' c (c + 1) r s m'' → Saves a m f (c + 1) r s m''
      go (Ok y) h = record {
        stays = Stays-then a b s told_bitmap p.stays h.stays;
        disks = AreSameDisks-then (disks_of a m) (disks_of b m') (disks_of s m'') p.disks h.disks;
        causes = HasCauses-then (disks_of a m) (disks_of b m') (disks_of s m'') (Ok y) p.disks p.causes.armed h.causes;
        images = λ known told. KeepsImages-then a m.image b m'.image s m''.image (p.images known told) (h.images (p.known known told) (p.disks.master.told told));
        stands = h.stands;
        split = λ known told. Splits-then (disk_state a) (disk_state b) (disk_state s) (chunks_of a) f c (c + 1) low (omega arith) (p.split known told) (subst (λ (n : ℕ). Splits (disk_state b) (disk_state s) n c (c + 1)) same_count (h.split (p.known known told) (p.disks.master.told told)));
        known = λ known told. h.known (p.known known told) (p.disks.master.told told);
        memory = Splits-then (state_of a) (state_of b) (state_of s) (chunks_of a) f c (c + 1) low (omega arith) p.memory (subst (λ (n : ℕ). Splits (state_of b) (state_of s) n c (c + 1)) same_count h.memory);
        stopped = λ _ _. tt;
        memory_stopped = tt;
        master_within = λ told. ChangesIn-then a b f c (c + 1) 3 (chunks_of a) m.image m'.image m''.image p.stays.blocks low (omega arith) (omega arith) p.memory (p.master_within told) (h.master_within (p.disks.master.told told));
        shadow_within = λ told. ChangesIn-then a b f c (c + 1) 0 (chunks_of a) (disk_of a.shadow).image (disk_of b.shadow).image (disk_of s.shadow).image p.stays.blocks low (omega arith) (omega arith) p.memory (p.shadow_within told) (h.shadow_within (p.disks.shadow.told told));
        bitmap_within = bitmap_then;
        counts = record {
          master = h.counts.master ∙ ap (λ (w : ℕ). raised w (to_master b c (c + 1))) p.counts.master ∙ raised-then m.written (to_master a f c) (to_master b c (c + 1)) ∙ ap (λ (n : ℕ). raised m.written n) sum_master;
          shadow = h.counts.shadow ∙ ap (λ (w : ℕ). raised w (to_shadow b c (c + 1))) p.counts.shadow ∙ raised-then (disk_of a.shadow).written (to_shadow a f c) (to_shadow b c (c + 1)) ∙ ap (λ (n : ℕ). raised (disk_of a.shadow).written n) sum_shadow;
          bitmap = h.counts.bitmap ∙ ap (λ (w : ℕ). raised w (to_bitmap b c (c + 1))) p.counts.bitmap ∙ raised-then a.areas.disk.written (to_bitmap a f c) (to_bitmap b c (c + 1)) ∙ ap (λ (n : ℕ). raised a.areas.disk.written n) sum_bitmap;
        };
        counts_stopped = tt;
      }
      go (Err y) h = record {
        stays = Stays-then a b s told_bitmap p.stays h.stays;
        disks = AreSameDisks-then (disks_of a m) (disks_of b m') (disks_of s m'') p.disks h.disks;
        causes = HasCauses-then (disks_of a m) (disks_of b m') (disks_of s m'') (Err y) p.disks p.causes.armed h.causes;
        images = λ known told. KeepsImages-then a m.image b m'.image s m''.image (p.images known told) (h.images (p.known known told) (p.disks.master.told told));
        stands = h.stands;
        split = λ _ _. tt;
        known = λ _ _. tt;
        memory = tt;
        stopped = λ known told.
            let part = h.stopped (p.known known told) (p.disks.master.told told) in
            record {
              upto = part.upto;
              low = omega (arith, part.low);
              high = part.high;
              splits = Splits-then (disk_state a) (disk_state b) (disk_state s) (chunks_of a) f c part.upto low part.low (p.split known told) (subst (λ (n : ℕ). Splits (disk_state b) (disk_state s) n c part.upto) same_count part.splits);
            };
        memory_stopped =
            let part = h.memory_stopped in
            record {
              upto = part.upto;
              low = omega (arith, part.low);
              high = part.high;
              splits = Splits-then (state_of a) (state_of b) (state_of s) (chunks_of a) f c part.upto low part.low p.memory (subst (λ (n : ℕ). Splits (state_of b) (state_of s) n c part.upto) same_count part.splits);
            };
        master_within = λ told. ChangesIn-then a b f c (c + 1) 3 (chunks_of a) m.image m'.image m''.image p.stays.blocks low (omega arith) (omega arith) p.memory (p.master_within told) (h.master_within (p.disks.master.told told));
        shadow_within = λ told. ChangesIn-then a b f c (c + 1) 0 (chunks_of a) (disk_of a.shadow).image (disk_of b.shadow).image (disk_of s.shadow).image p.stays.blocks low (omega arith) (omega arith) p.memory (p.shadow_within told) (h.shadow_within (p.disks.shadow.told told));
        bitmap_within = bitmap_then;
        counts = tt;
        counts_stopped = record {
          master = most m.written m'.written m''.written (to_master a f c) (to_master b c (c + 1)) (to_master a f (c + 1)) p.counts.master h.counts_stopped.master sum_master;
          shadow = most (disk_of a.shadow).written (disk_of b.shadow).written (disk_of s.shadow).written (to_shadow a f c) (to_shadow b c (c + 1)) (to_shadow a f (c + 1)) p.counts.shadow h.counts_stopped.shadow sum_shadow;
          bitmap = most a.areas.disk.written b.areas.disk.written s.areas.disk.written (to_bitmap a f c) (to_bitmap b c (c + 1)) (to_bitmap a f (c + 1)) p.counts.bitmap h.counts_stopped.bitmap sum_bitmap;
          master_kept = least m.written m'.written m''.written (to_master a f c) p.counts.master h.counts_stopped.master_kept;
          shadow_kept = least (disk_of a.shadow).written (disk_of b.shadow).written (disk_of s.shadow).written (to_shadow a f c) p.counts.shadow h.counts_stopped.shadow_kept;
          bitmap_kept = least a.areas.disk.written b.areas.disk.written s.areas.disk.written (to_bitmap a f c) p.counts.bitmap h.counts_stopped.bitmap_kept;
        };
      }
        where
          most : (w w' w'' i j n : ℕ) → w' ≡ raised w i → w'' ≤ w' + j → i + j ≡ n → w'' ≤ w + n
          most w w' w'' i j n is le sum = omega (arith, is, le, sum, raised_most w i)

          least : (w w' w'' i : ℕ) → w' ≡ raised w i → min w' (2 ^ 64 - 1) ≤ w'' → min w (2 ^ 64 - 1) ≤ w''
          least w w' w'' i is le = omega (arith, is, le, raised_least w i)

-- ---- a save that stopped, as one of more chunks

pub Saves-wider : {T E : Type 0} (a s : ChunkSet) (m m' : Seen) (f c e : ℕ) (y : E) → f ≤ c → c ≤ e → Saves {T = T} a m f c (Err y) s m' → Saves {T = T} a m f e (Err y) s m'
Saves-wider a s m m' f c e y low high h = record {
  stays = h.stays;
  disks = h.disks;
  causes = h.causes;
  images = h.images;
  stands = h.stands;
  split = λ _ _. tt;
  known = λ _ _. tt;
  memory = tt;
  stopped = λ known told. let part = h.stopped known told in record { upto = part.upto; low = part.low; high = omega (arith, part.high); splits = part.splits };
  memory_stopped = let part = h.memory_stopped in record { upto = part.upto; low = part.low; high = omega (arith, part.high); splits = part.splits };
  master_within = λ told. ChangesIn-wider a f c e 3 m.image m'.image high (h.master_within told);
  shadow_within = λ told. ChangesIn-wider a f c e 0 (disk_of a.shadow).image (disk_of s.shadow).image high (h.shadow_within told);
  bitmap_within = λ told. ChangesWithin_wider (state_block a f) (state_block a (c + 2047) - state_block a f) (state_block a f) (state_block a (e + 2047) - state_block a f) a.areas.disk.image s.areas.disk.image (omega arith) (omega arith) (h.bitmap_within told);
  counts = tt;
  counts_stopped = record {
    master = omega (arith, h.counts_stopped.master, sum_less (λ d. cond (eqb (state_of a d) 3) (seg_len d a.blocks) 0) f c e low high);
    shadow = omega (arith, h.counts_stopped.shadow, sum_less (λ d. cond (eqb (state_of a d) 0) (seg_len d a.blocks) 0) f c e low high);
    bitmap = omega (arith, h.counts_stopped.bitmap, sum_less (λ d. cond (eqb (state_of a d) 2) 0 1) f c e low high);
    master_kept = h.counts_stopped.master_kept;
    shadow_kept = h.counts_stopped.shadow_kept;
    bitmap_kept = h.counts_stopped.bitmap_kept;
  };
}

-- the same by other words for its end and its answer
pub Saves-words : {T E : Type 0} (a s : ChunkSet) (m m' : Seen) (f e e' : ℕ) (q r : Result T E) → q ≡ r → e ≡ e' → Saves a m f e q s m' → Saves a m f e' r s m'
Saves-words {T = T} {E = E} a s m m' f e e' q r is end h = subst (λ (n : ℕ). Saves a m f n r s m') end (subst (λ (p : Result T E). Saves a m f e p s m') is h)

-- chunks can be saved after some are
pub CanSave-then : {T E : Type 0} (x : T) (a b : ChunkSet) (m m' : Seen) (f e : ℕ) → Saves {E = E} a m f e (Ok x) b m' → CanSave a → CanSave b
CanSave-then x a b m m' f e p (inl there) = inl (subst (λ (t : Bool). IsTrue t) (sym p.stays.there) there)
CanSave-then x a b m m' f e p (inr settled) = inr (record {
  kind = p.stays.kind ∙ settled.kind;
  settled = λ c lt.
      let inside : c < chunks_of a = subst (λ (n : ℕ). c < seg_count n) p.stays.blocks lt in
      elim (cases_lt c f) [
        | inl low ↦ same c inside (inl low)
        | inr high ↦ elim (cases_lt c e) [
          | inl within ↦ inr (p.memory.inside c inside high within)
          | inr past ↦ same c inside (inr past)
        ]
      ];
})
  where
    same : (c : ℕ) → c < chunks_of a → (c < f) ⊎ (e ≤ c) → (state_of b c ≡ 1) ⊎ (state_of b c ≡ 2)
    same c inside out = elim (settled.settled c inside) [
      | inl one ↦ inl (p.memory.outside c inside out ∙ one)
      | inr two ↦ inr (p.memory.outside c inside out ∙ two)
    ]
