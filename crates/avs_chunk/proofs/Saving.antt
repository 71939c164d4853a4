-- A chunk is saved: the three ways out, and one save after another.
use Rattle.std.proofs.Common.{◌≡◌, ◌≢◌, ◌⊎◌, inl, inr, ℕ, ◌+◌, ◌-◌, ◌*◌, ◌/◌, ◌<◌, ◌≤◌, Bool, true, false, cond, eqb, List, length, Option, is_some, Result, Ok, Err, OnOk, OnErr, refl, sym, ◌∙◌, ap, subst, arith}
use Rattle.std.proofs.lemmas.Bool.{cases_lt, cases_eq}
use Rattle.avs_seg.specs.Image.{Block, Image, block_at, range, ChangesWithin}
use Rattle.avs_seg.specs.Segment.{seg_count, seg_len}
use Rattle.avs_seg.specs.Causes.{Rose}
use Rattle.avs_seg.proofs.Changes.{ChangesWithin-same, ChangesWithin_wider}
use Rattle.avs_dev.specs.Seen.{Seen, IsTold, UsesTear}
use Rattle.avs_flip.specs.Areas.{Areas, live, live_from}
use Rattle.avs_code.specs.Label.{IsLabel}
use Rattle.avs_chunk.specs.States.{Splits, state_in, state_on}
use Rattle.avs_chunk.specs.ChunkSet.{ChunkSet, shadow_by, master_by, disk_of, state_of, disk_state, chunks_of, shadow_image, IsKnown, IsCleanOnDisk, DiffersInSplit, IsClean, shadow_label}
use Rattle.avs_chunk.specs.Disks.{raised}
use Rattle.avs_chunk.specs.Steps.{HasStates, PutsState}
use Rattle.avs_chunk.specs.Calls.{IsNotBack, Stays, KeepsImages, ChangesIn, state_block, to_master, to_shadow, to_bitmap, Saves}
use Rattle.avs_chunk.proofs.SameDisks.{Copy, IsSameDisk-same, cond_not}
use Rattle.avs_chunk.proofs.Images.{copied_shadow, copied_master, copied_alike, saved_shadow, saved_master, saved_alike, stands_by}
use Rattle.avs_chunk.proofs.Sums.{sum_one}

-- ---- what holds of every set

pub stands : (s : ChunkSet) (a b : Image) → DiffersInSplit s a b → shadow_image s b ≡ shadow_image s a
stands s a b differs = stands_by s.blocks (live s.areas) (disk_of s.shadow).image a b differs.same

pub Stays-same : (s : ChunkSet) → Stays s s
Stays-same s = record { kind = refl; blocks = refl; there = refl; first = refl; len = refl; live_b = refl; staged = λ _. refl; label = λ _ label. label; not_back = λ _ c lt not. not; clean = λ _ clean. clean }

pub Splits-none : (f : ℕ → ℕ) (n a : ℕ) → Splits f f n a a
Splits-none f n a = record { inside = λ c _ low high. absurd (nothing c low high); outside = λ c _ _. refl }
  where
    nothing : (c : ℕ) → a ≤ c → c < a → ⊥
    nothing c low high = omega arith

pub Splits-one : (f g : ℕ → ℕ) (n c : ℕ) → g c ≡ 2 → ((d : ℕ) → d < n → d ≢ c → g d ≡ f d) → Splits f g n c (c + 1)
Splits-one f g n c now others = record {
  inside = λ d _ low high. let is : d ≡ c = omega arith in ap g is ∙ now;
  outside = λ d lt out. others d lt (apart d out);
}
  where
    apart : (d : ℕ) → (d < c) ⊎ (c + 1 ≤ d) → d ≢ c
    apart d (inl low) is = omega arith
    apart d (inr high) is = omega arith

pub Splits-then : (f g h : ℕ → ℕ) (n a c e : ℕ) → a ≤ c → c ≤ e → Splits f g n a c → Splits g h n c e → Splits f h n a e
Splits-then f g h n a c e le le' p q = record {
  inside = λ d lt low high. elim (cases_lt d c) [
    | inl below ↦ q.outside d lt (inl below) ∙ p.inside d lt low below
    | inr above ↦ q.inside d lt above high
  ];
  outside = λ d lt out. elim out [
    | inl low ↦ q.outside d lt (inl (omega arith)) ∙ p.outside d lt (inl low)
    | inr high ↦ q.outside d lt (inr high) ∙ p.outside d lt (inr (omega arith))
  ];
}

first_live : (a : Areas) → a.first ≡ 1 → 0 < live_from a
first_live a is = go a.live_b
  where
    go : (b : Bool) → 0 < cond b (a.first + a.len) a.first
    go true = omega (arith, is)
    go false = omega (arith, is)

-- only blocks of one chunk change, and none where it is not in this state
ChangesIn-one : (old : ChunkSet) (c k state : ℕ) (img new : Image) → k ≤ 64 → 64 * c + k ≤ old.blocks → ChangesWithin (64 * c) k img new → (state_of old c ≢ state → new ≡ img) → ChangesIn old c (c + 1) state img new
ChangesIn-one old c k state img new short inside within same = record {
  same_length = within.same_length;
  outside = λ i out. elim (cases_eq (i / 64) c) [
    | inl here ↦ elim out [
      | inl low ↦ absurd (not_low i here low)
      | inr rest ↦ elim rest [
        | inl high ↦ absurd (not_high i here high)
        | inr other ↦ ap (λ (l : Image). block_at l i) (same (λ is. other (ap (λ (j : ℕ). state_of old j) here ∙ is)))
      ]
    ]
    | inr apart ↦ within.outside i (away i apart)
  ];
  behind = λ i past. within.outside i (inr (omega (arith, inside, past)));
}
  where
    not_low : (i : ℕ) → i / 64 ≡ c → i / 64 < c → ⊥
    not_low i here low = omega arith

    not_high : (i : ℕ) → i / 64 ≡ c → c + 1 ≤ i / 64 → ⊥
    not_high i here high = omega arith

    away : (i : ℕ) → i / 64 ≢ c → (i < 64 * c) ⊎ (64 * c + k ≤ i)
    away i apart = elim (cases_lt i (64 * c)) [
      | inl low ↦ inl low
      | inr high ↦ inr (omega arith)
    ]

pub ChangesIn-same : (old : ChunkSet) (a e state : ℕ) (img new : Image) → new ≡ img → ChangesIn old a e state img new
ChangesIn-same old a e state img new is = record { same_length = ap length is; outside = λ i _. ap (λ (l : Image). block_at l i) is; behind = λ i _. ap (λ (l : Image). block_at l i) is }

pub ChangesIn-wider : (old : ChunkSet) (a c e state : ℕ) (img new : Image) → c ≤ e → ChangesIn old a c state img new → ChangesIn old a e state img new
ChangesIn-wider old a c e state img new le p = record {
  same_length = p.same_length;
  outside = λ i out. p.outside i (elim out [
    | inl low ↦ inl low
    | inr rest ↦ elim rest [
      | inl high ↦ inr (inl (omega arith))
      | inr other ↦ inr (inr other)
    ]
  ]);
  behind = p.behind;
}

-- ---- one chunk

module _ (old : ChunkSet) (m m' : Seen) (X : Option Seen) (c : ℕ)
    (lt : c < seg_count old.blocks) (first_is : old.areas.first ≡ 1) (clean : IsClean old.memory (seg_count old.blocks))
    (still : is_some X ≡ is_some old.shadow) (not_2 : state_of old c ≢ 2) where
  copied_state : IsKnown old → disk_state old c ≡ state_of old c
  copied_state known = sym (known.step.each c lt)

  module _ {S F : Type 0} (q : Result S F) (copy : Copy (state_of old c) (64 * c) (seg_len c old.blocks) q m (disk_of old.shadow) m' (disk_of X)) where
    m_same : IsKnown old → disk_state old c ≢ 3 → m'.image ≡ m.image
    m_same known other = copy.m_same (λ is. other (copied_state known ∙ is))

    s_same : IsKnown old → disk_state old c ≢ 0 → (disk_of X).image ≡ (disk_of old.shadow).image
    s_same known other = copy.s_same (λ is. other (copied_state known ∙ is))

    copy_keeps : IsKnown old → IsTold m → KeepsImages old m.image (record old { shadow = X }) m'.image
    copy_keeps known told = record {
      shadow = copied_shadow old.blocks (live old.areas) m.image (disk_of old.shadow).image m'.image (disk_of X).image c (seg_len c old.blocks) refl (m_same known) (s_same known) (copy.m_within told) (copy.s_within known.shadow);
      master = copied_master old.blocks (live old.areas) m.image (disk_of old.shadow).image m'.image (disk_of X).image c (seg_len c old.blocks) refl (m_same known) (s_same known) (copy.m_within told) (copy.s_within known.shadow);
      alike = λ alike. record {
        same = λ i low one. copied_alike old.blocks (live old.areas) m.image (disk_of old.shadow).image m'.image (disk_of X).image c (seg_len c old.blocks) refl (m_same known) (s_same known) (copy.m_within told) (copy.s_within known.shadow) i low one (alike.same i low one);
      };
    }

    short : seg_len c old.blocks ≤ 64
    short = omega arith

    inside : 64 * c + seg_len c old.blocks ≤ old.blocks
    inside = omega (arith, lt)

    one_master : to_master old c (c + 1) ≡ cond (eqb (state_of old c) 3) (seg_len c old.blocks) 0
    one_master = sum_one (λ d. cond (eqb (state_of old d) 3) (seg_len d old.blocks) 0) c

    one_shadow : to_shadow old c (c + 1) ≡ cond (eqb (state_of old c) 0) (seg_len c old.blocks) 0
    one_shadow = sum_one (λ d. cond (eqb (state_of old d) 0) (seg_len d old.blocks) 0) c

    one_bitmap : to_bitmap old c (c + 1) ≡ 1
    one_bitmap = sum_one (λ d. cond (eqb (state_of old d) 2) 0 1) c ∙ cond_not (state_of old c) 2 0 1 not_2

    -- the copy failed
    pub Saves-copy : {T E : Type 0} (e : F) (f : E) → q ≡ Err e → Saves {T = T} old m c (c + 1) (Err f) (record old { shadow = X }) m'
    Saves-copy e f is =
        let bad = subst (λ (r : Result S F). OnErr r (Rose m.faults m'.faults ⊎ Rose (disk_of old.shadow).faults (disk_of X).faults)) is copy.failed in
        record {
          stays = record { kind = refl; blocks = refl; there = still; first = refl; len = refl; live_b = refl; staged = λ _. refl; label = λ _ label. record { label = label.label }; not_back = λ _ d inside not. record { memory = not.memory; disk = not.disk }; clean = λ _ zeros. record { each = zeros.each } };
          disks = record { master = copy.master; shadow = copy.shadow; bitmap = IsSameDisk-same old.areas.disk };
          causes = record {
            failed = elim bad [ inl a ↦ inl a | inr b ↦ inr (inl b) ];
            armed = tt;
            used = λ steady. elim (subst (λ (r : Result S F). OnErr r ((UsesTear m m' × ((disk_of X).armed ≡ (disk_of old.shadow).armed)) ⊎ (UsesTear (disk_of old.shadow) (disk_of X) × (m'.armed ≡ m.armed)))) is (copy.used steady.master steady.shadow)) [
              | inl a ↦ inl (a.0, a.1, refl)
              | inr b ↦ inr (inl (b.0, b.1, refl))
            ];
          };
          images = copy_keeps;
          stands = stands _ _;
          split = λ _ _. tt;
          known = λ _ _. tt;
          memory = tt;
          stopped = λ _ _. record { upto = c; low = omega arith; high = omega arith; splits = Splits-none (disk_state old) (chunks_of old) c };
          memory_stopped = record { upto = c; low = omega arith; high = omega arith; splits = Splits-none (state_of old) (chunks_of old) c };
          master_within = λ told. ChangesIn-one old c (seg_len c old.blocks) 3 m.image m'.image short inside (copy.m_within told) copy.m_same;
          shadow_within = λ told. ChangesIn-one old c (seg_len c old.blocks) 0 (disk_of old.shadow).image (disk_of X).image short inside (copy.s_within told) copy.s_same;
          bitmap_within = λ _. ChangesWithin-same _ _ old.areas.disk.image;
          counts = tt;
          counts_stopped = record {
            master = rw one_master copy.most_m;
            shadow = rw one_shadow copy.most_s;
            bitmap = omega arith;
            master_kept = copy.least_m;
            shadow_kept = copy.least_s;
            bitmap_kept = omega arith;
          };
        }

    -- the copy is there, and the state is written or not
    module _ (x : S) (q_is : q ≡ Ok x) (A : Areas) (M : List ℕ) where
      abbrev pub new : ChunkSet
      new = record old { shadow = X; areas = A; memory = M }

      done_q : (P : Type 0) → OnOk q P → P
      done_q P p = subst (λ (r : Result S F). OnOk r P) q_is p

      -- the states on the disk behind the write of this one's
      put_split : IsKnown old → HasStates old.memory (live old.areas) (live A) c 2 → Splits (disk_state old) (disk_state new) (chunks_of old) c (c + 1)
      put_split known has = Splits-one (disk_state old) (disk_state new) (chunks_of old) c has.now (λ d inside other. elim (cases_eq (d / 2048) (c / 2048)) [
        | inl here ↦ has.near d other here ∙ known.step.each d inside
        | inr apart ↦ has.far d apart
      ])

      rest_at : IsKnown old → HasStates old.memory (live old.areas) (live A) c 2 → (i : ℕ) → i < old.blocks → i / 64 ≢ c → state_on (live A) (i / 64) ≡ state_on (live old.areas) (i / 64)
      rest_at known has i low other = (put_split known has).outside (i / 64) (omega arith) (away other)
        where
          away : i / 64 ≢ c → (i / 64 < c) ⊎ (c + 1 ≤ i / 64)
          away ne = elim (cases_lt (i / 64) c) [
            | inl less ↦ inl less
            | inr more ↦ inr (omega arith)
          ]

      alike_now : IsKnown old → IsTold m → (disk_state old c ≡ 0) ⊎ (disk_state old c ≡ 3) → range (disk_of X).image (64 * c) (seg_len c old.blocks) ≡ range m'.image (64 * c) (seg_len c old.blocks)
      alike_now known told one = done_q _ (copy.alike told known.shadow (elim one [
        | inl a ↦ inl (sym (copied_state known) ∙ a)
        | inr b ↦ inr (sym (copied_state known) ∙ b)
      ]))

      put_keeps : IsKnown old → IsTold m → (live A ≡ live old.areas) ⊎ HasStates old.memory (live old.areas) (live A) c 2 → KeepsImages old m.image new m'.image
      put_keeps known told (inl same) =
          let copied = copy_keeps known told in
          record {
            shadow = ap (λ (l : Image). shadow_by old.blocks l (disk_of X).image m'.image) same ∙ copied.shadow;
            master = ap (λ (l : Image). master_by old.blocks l (disk_of X).image m'.image) same ∙ copied.master;
            alike = λ alike. record { same = λ i low one. (copied.alike alike).same i low (ap (λ (l : Image). state_on l (i / 64)) (sym same) ∙ one) };
          }
      put_keeps known told (inr has) = record {
        shadow = saved_shadow old.blocks (live old.areas) m.image (disk_of old.shadow).image m'.image (disk_of X).image c (seg_len c old.blocks) refl (m_same known) (s_same known) (copy.m_within told) (copy.s_within known.shadow) (live A) has.now (rest_at known has) (alike_now known told);
        master = saved_master old.blocks (live old.areas) m.image (disk_of old.shadow).image m'.image (disk_of X).image c (seg_len c old.blocks) refl (m_same known) (s_same known) (copy.m_within told) (copy.s_within known.shadow) (live A) has.now (rest_at known has) (alike_now known told);
        alike = λ alike. record {
          same = λ i low one. saved_alike old.blocks (live old.areas) m.image (disk_of old.shadow).image m'.image (disk_of X).image c (seg_len c old.blocks) refl (m_same known) (s_same known) (copy.m_within told) (copy.s_within known.shadow) (live A) has.now (rest_at known has) (alike_now known told) i low one (alike.same i low);
        };
      }

      -- zeros behind the last chunk are zeros
      put_clean : (live A ≡ live old.areas) ⊎ HasStates old.memory (live old.areas) (live A) c 2 → IsCleanOnDisk old → IsCleanOnDisk new
      put_clean (inl same) zeros = record { each = λ d past. ap (λ (l : Image). state_on l d) same ∙ zeros.each d past }
      put_clean (inr has) zeros = record {
        each = λ d past. elim (cases_eq (d / 2048) (c / 2048)) [
          | inl here ↦ has.near d (other d past) here ∙ clean.each d past
          | inr apart ↦ has.far d apart ∙ zeros.each d past
        ];
      }
        where
          other : (d : ℕ) → seg_count old.blocks ≤ d → d ≢ c
          other d past is = omega arith

      -- a chunk stands on the disk as it did there or in memory, or it is split
      put_not_back : (live A ≡ live old.areas) ⊎ HasStates old.memory (live old.areas) (live A) c 2 → ((d : ℕ) → (state_of new d ≡ state_of old d) ⊎ (state_of new d ≡ 2)) → (d : ℕ) → IsNotBack old d → IsNotBack new d
      put_not_back end memory d not = record {
        memory = λ is. elim (memory d) [
          | inl same ↦ not.memory (sym same ∙ is)
          | inr two ↦ not_3 (state_of new d) two is
        ];
        disk = λ is. on_disk end is;
      }
        where
          not_3 : (n : ℕ) → n ≡ 2 → n ≡ 3 → ⊥
          not_3 n two three = omega arith

          on_disk : (live A ≡ live old.areas) ⊎ HasStates old.memory (live old.areas) (live A) c 2 → disk_state new d ≡ 3 → ⊥
          on_disk (inl same) is = not.disk (ap (λ (l : Image). state_on l d) (sym same) ∙ is)
          on_disk (inr has) is = elim (cases_eq d c) [
            | inl this ↦ not_3 (disk_state new d) (ap (λ (k : ℕ). state_on (live A) k) this ∙ has.now) is
            | inr other ↦ elim (cases_eq (d / 2048) (c / 2048)) [
              | inl here ↦ not.memory (sym (has.near d other here) ∙ is)
              | inr apart ↦ not.disk (sym (has.far d apart) ∙ is)
            ]
          ]

      put_stays : {T E : Type 0} (r : Result T E) → PutsState old.areas old.memory c 2 r A M → (IsTold old.areas.disk → (live A ≡ live old.areas) ⊎ HasStates old.memory (live old.areas) (live A) c 2) → ((d : ℕ) → (state_of new d ≡ state_of old d) ⊎ (state_of new d ≡ 2)) → Stays old new
      put_stays r p end memory = record {
        kind = refl;
        blocks = refl;
        there = still;
        first = ap (λ (a : Areas). a.first) p.place;
        len = ap (λ (a : Areas). a.len) p.place;
        live_b = ap (λ (a : Areas). a.live_b) p.place;
        staged = p.staged;
        label = λ told label. record {
          label = subst (λ (b : Block). IsLabel b (shadow_label old.blocks)) (sym ((p.within told).outside 0 (inl (omega (arith, first_live old.areas first_is))))) label.label;
        };
        not_back = λ told d inside not. put_not_back (end told) memory d not;
        clean = λ told zeros. put_clean (end told) zeros;
      }

      put_within : {T E : Type 0} (r : Result T E) → PutsState old.areas old.memory c 2 r A M → IsTold old.areas.disk → ChangesWithin (state_block old c) (state_block old (c + 1 + 2047) - state_block old c) old.areas.disk.image A.disk.image
      put_within r p told = ChangesWithin_wider (state_block old c) 1 (state_block old c) (state_block old (c + 1 + 2047) - state_block old c) old.areas.disk.image A.disk.image (omega arith) (omega arith) (p.within told)

      pub Saves-put : {T E : Type 0} (r : Result T E) → PutsState old.areas old.memory c 2 r A M → Saves old m c (c + 1) r new m'
      Saves-put (Ok y) p = record {
        stays = put_stays (Ok y) p (λ told. inr (p.done told)) (λ d. elim (cases_eq d c) [
          | inl is ↦ inr (ap (λ (j : ℕ). state_in M j) is ∙ p.set.now)
          | inr other ↦ inl (p.set.others d other)
        ]);
        disks = record { master = copy.master; shadow = copy.shadow; bitmap = p.disk };
        causes = record { failed = tt; armed = record { master = done_q _ copy.armed_m; shadow = done_q _ copy.armed_s; bitmap = p.spared }; used = λ _. tt };
        images = λ known told. put_keeps known told (inr (p.done known.bitmap));
        stands = stands _ _;
        split = λ known _. put_split known (p.done known.bitmap);
        known = λ known _. record {
          shadow = copy.shadow.told known.shadow;
          bitmap = p.disk.told known.bitmap;
          step = record {
            each = λ d inside. elim (cases_eq d c) [
              | inl is ↦ ap (λ (j : ℕ). state_in M j) is ∙ p.set.now ∙ sym ((p.done known.bitmap).now) ∙ ap (λ (j : ℕ). state_on (live A) j) (sym is)
              | inr other ↦ p.set.others d other ∙ known.step.each d inside ∙ sym ((put_split known (p.done known.bitmap)).outside d inside (away d other))
            ];
          };
        };
        memory = Splits-one (state_of old) (state_of new) (chunks_of old) c p.set.now (λ d _ other. p.set.others d other);
        stopped = λ _ _. tt;
        memory_stopped = tt;
        master_within = λ told. ChangesIn-one old c (seg_len c old.blocks) 3 m.image m'.image short inside (copy.m_within told) copy.m_same;
        shadow_within = λ told. ChangesIn-one old c (seg_len c old.blocks) 0 (disk_of old.shadow).image (disk_of X).image short inside (copy.s_within told) copy.s_same;
        bitmap_within = put_within (Ok y) p;
        counts = record {
          master = done_q _ copy.counts_m ∙ ap (λ (n : ℕ). raised m.written n) (sym one_master);
          shadow = done_q _ copy.counts_s ∙ ap (λ (n : ℕ). raised (disk_of old.shadow).written n) (sym one_shadow);
          bitmap = p.counted ∙ ap (λ (n : ℕ). raised old.areas.disk.written n) (sym one_bitmap);
        };
        counts_stopped = tt;
      }
        where
          away : (d : ℕ) → d ≢ c → (d < c) ⊎ (c + 1 ≤ d)
          away d ne = elim (cases_lt d c) [
            | inl less ↦ inl less
            | inr more ↦ inr (omega arith)
          ]
      Saves-put (Err e) p = record {
        stays = put_stays (Err e) p p.failed (λ d. inl (ap (λ (l : List ℕ). state_in l d) p.unset));
        disks = record { master = copy.master; shadow = copy.shadow; bitmap = p.disk };
        causes = record { failed = inr (inr p.cause.failed); armed = tt; used = λ steady. inr (inr (p.used steady.bitmap, (done_q _ copy.armed_m).armed, (done_q _ copy.armed_s).armed)) };
        images = λ known told. put_keeps known told (p.failed known.bitmap);
        stands = stands _ _;
        split = λ _ _. tt;
        known = λ _ _. tt;
        memory = tt;
        stopped = λ known _. elim (p.failed known.bitmap) [
          | inl same ↦ record { upto = c; low = omega arith; high = omega arith; splits = subst (λ (l : Image). Splits (disk_state old) (λ d. state_on l d) (chunks_of old) c c) (sym same) (Splits-none (disk_state old) (chunks_of old) c) }
          | inr has ↦ record { upto = c + 1; low = omega arith; high = omega arith; splits = put_split known has }
        ];
        memory_stopped = record { upto = c; low = omega arith; high = omega arith; splits = subst (λ (l : List ℕ). Splits (state_of old) (λ d. state_in l d) (chunks_of old) c c) (sym p.unset) (Splits-none (state_of old) (chunks_of old) c) };
        master_within = λ told. ChangesIn-one old c (seg_len c old.blocks) 3 m.image m'.image short inside (copy.m_within told) copy.m_same;
        shadow_within = λ told. ChangesIn-one old c (seg_len c old.blocks) 0 (disk_of old.shadow).image (disk_of X).image short inside (copy.s_within told) copy.s_same;
        bitmap_within = put_within (Err e) p;
        counts = tt;
        counts_stopped = record {
          master = rw one_master copy.most_m;
          shadow = rw one_shadow copy.most_s;
          bitmap = (let e : A.disk.written ≡ old.areas.disk.written = p.uncounted in omega arith);
          master_kept = copy.least_m;
          shadow_kept = copy.least_s;
          bitmap_kept = (let e : A.disk.written ≡ old.areas.disk.written = p.uncounted in omega arith);
        };
      }
