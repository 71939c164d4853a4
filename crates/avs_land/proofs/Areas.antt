-- What a landing makes of the blocks of its volume.
use Rattle.std.proofs.Common.{◌≡◌, ◌≢◌, ◌⊎◌, inl, inr, ℕ, ◌+◌, ◌%◌, ◌<◌, ◌≤◌, Bool, true, false, cond, eqb, [], ◌∷◌, length, None, Some, refl, sym, ◌∙◌, ap, subst, arith}
use Rattle.std.proofs.lemmas.Bool.{cases_lt, cases_eq, cond-true, eq-eqb}
use Rattle.avs_seg.specs.Image.{Block, Image, block_at, put, range, IsMix}
use Rattle.avs_seg.proofs.Puts.{length-put, put_one, put_outside}
use Rattle.avs_seg.proofs.Ranges.{same_ranges, range-put, range-put_apart}
use Rattle.avs_code.specs.Header.{IsLandHeader, HeaderKeeps}
use Rattle.avs_code.specs.Label.{IsLabel}
use Rattle.avs_code.specs.declared.land_headers.LandHeader.{LandHeader}
use Rattle.avs_model.specs.declared.entry.Entry.{Entry}
use Rattle.avs_model.specs.declared.entry.EntryKind.{EntryKind}
use Rattle.avs_model.specs.declared.entry.EntryKind.TheVariants.{Write, Copied, Mark}
use Rattle.avs_land.specs.Landed.{landing_label, area_of, kind_code, entry_kind, header_for, landed_of, landed_blocks, IsEntry, IsLanding, IsReadable, HasLanded}
use Rattle.avs_land.specs.Landing.{ChangesLanding, KeepsLanded}

-- ---- areas

pub area_low : (place : ℕ) → 2 ≤ area_of place
area_low place = omega arith

pub area_high : (place : ℕ) → area_of place + 256 ≤ 514
area_high place = omega arith

-- areas of two places of which only one is odd
areas_apart : (p q m n : ℕ) → p % 2 ≢ q % 2 → m ≤ 256 → n ≤ 256 → (area_of p + m ≤ area_of q) ⊎ (area_of q + n ≤ area_of p)
areas_apart p q m n other few few' = elim (cases_lt (p % 2) (q % 2)) [
  | inl low ↦ inl (omega arith)
  | inr high ↦ elim (cases_eq (p % 2) (q % 2)) [ inl same ↦ absurd (other same) | inr apart ↦ inr (omega arith) ]
]

len_bound : (a b : Bool) → cond a 256 (cond b 64 0) ≤ 256
len_bound true b = omega arith
len_bound false true = omega arith
len_bound false false = omega arith

pub len_few : (h : LandHeader) → HeaderKeeps h → h.len ≤ 256
len_few h keeps = omega (arith, keeps.len, len_bound (eqb h.kind 1) (eqb h.kind 2))

pub entry_few : (e : Entry) → IsEntry e → length e.bytes ≤ 256
entry_few e is = omega (arith, is.most, len_bound (eqb (kind_code e.kind) 1) (eqb (kind_code e.kind) 2))

-- ---- blocks that stay

module _ (place count : ℕ) (img new : Image) (c : ChangesLanding place count img new) where
  pub label_stays : block_at new 0 ≡ block_at img 0
  label_stays = c.others 0 (λ is. let differ : 0 ≡ 1 = is in absurd (omega arith)) (inl (omega (arith, area_low place)))

  -- the other area
  blocks_stay : (h : LandHeader) → count ≤ 256 → h.len ≤ 256 → h.place % 2 ≢ place % 2 → landed_blocks h new ≡ landed_blocks h img
  blocks_stay h few few' other = same_ranges new img (area_of h.place) (area_of h.place) h.len (λ i lt. c.others (area_of h.place + i) (λ is. absurd (omega (arith, is, area_low h.place))) (elim (areas_apart h.place place h.len count other few' few) [
    | inl before ↦ inl (omega arith)
    | inr behind ↦ inr (omega arith)
  ]))

pub landed_same : (h : LandHeader) (img new : Image) → landed_blocks h new ≡ landed_blocks h img → landed_of h new ≡ landed_of h img
landed_same h img new same = ap (λ (bs : Image). cond (eqb h.kind 0) None (Some (record { session = h.session; place = h.place; entry = record { kind = entry_kind h.kind; set = h.set; at = h.at; bytes = bs } }))) same

nothing_landed : (h : LandHeader) (img : Image) → h.kind ≡ 0 → landed_of h img ≡ None
nothing_landed h img none = cond-true (eqb h.kind 0) None (Some (record { session = h.session; place = h.place; entry = record { kind = entry_kind h.kind; set = h.set; at = h.at; bytes = landed_blocks h img } })) (eq-eqb h.kind 0 none)

-- where the header stays, so does its entry, if the landing leaves its blocks alone
pub keeps_landed : (h : LandHeader) (place count : ℕ) (img new : Image) → ChangesLanding place count img new → count ≤ 256 → block_at new 1 ≡ block_at img 1 → IsLanding img h → KeepsLanded h img place new
keeps_landed h place count img new c few same is = record {
  is = record {
    label = subst (λ (b : Block). IsLabel b landing_label) (sym (label_stays place count img new c)) is.label;
    header = subst (λ (b : Block). IsLandHeader b h) (sym same) is.header;
  };
  entry = λ apart. elim apart [
    | inl none ↦ nothing_landed h new none ∙ sym (nothing_landed h img none)
    | inr other ↦ landed_same h img new (blocks_stay place count img new c h few (len_few h is.header.keeps) (elim other [
      | inl next ↦ odd_even next
      | inr area ↦ area
    ]))
  ];
}
  where
    odd_even : place ≡ h.place + 1 → h.place % 2 ≢ place % 2
    odd_even next same = absurd (omega arith)

-- ---- blocks of an entry, and then its header

pub changes_mix : (place : ℕ) (img bs new : Image) → IsMix img (area_of place) bs new → ChangesLanding place (length bs) img new
changes_mix place img bs new mix = record { same_length = mix.same_length; others = λ i apart outside. mix.outside i outside }

pub header_stays_mix : (place : ℕ) (img bs new : Image) → IsMix img (area_of place) bs new → block_at new 1 ≡ block_at img 1
header_stays_mix place img bs new mix = mix.outside 1 (inl (omega (arith, area_low place)))

module _ (place : ℕ) (img bs : Image) (b : Block) where
  abbrev landed_image : Image
  landed_image = put (put img (area_of place) bs) 1 (b ∷ [])

  pub changes_landed : ChangesLanding place (length bs) img landed_image
  changes_landed = record {
    same_length = length-put (put img (area_of place) bs) 1 (b ∷ []) ∙ length-put img (area_of place) bs;
    others = λ i apart outside. put_outside (put img (area_of place) bs) 1 (b ∷ []) i (one i apart) ∙ put_outside img (area_of place) bs i outside;
  }
    where
      one : (i : ℕ) → i ≢ 1 → (i < 1) ⊎ (1 + 1 ≤ i)
      one i apart = elim (cases_lt i 1) [ inl low ↦ inl low | inr high ↦ inr (omega arith) ]

  pub header_there : 514 ≤ length img → block_at landed_image 1 ≡ b
  header_there room = put_one (put img (area_of place) bs) 1 b 1 refl (omega (arith, length-put img (area_of place) bs))

  pub blocks_there : 514 ≤ length img → length bs ≤ 256 → range landed_image (area_of place) (length bs) ≡ bs
  blocks_there room few =
      range-put_apart (put img (area_of place) bs) 1 (b ∷ []) (area_of place) (length bs) (inr (omega (arith, area_low place)))
      ∙ range-put img (area_of place) bs (omega (arith, area_high place))

-- what a header tells of the entry that it was made for
landed_kind : (session place : ℕ) (kind : EntryKind) (set at : ℕ) (bytes img : Image) → range img (area_of place) (length bytes) ≡ bytes
    → landed_of (header_for session place (record { kind = kind; set = set; at = at; bytes = bytes })) img ≡ Some (record { session = session; place = place; entry = record { kind = kind; set = set; at = at; bytes = bytes } })
landed_kind session place Write set at bytes img there = ap (λ (bs : Image). Some (record { session = session; place = place; entry = record { kind = Write; set = set; at = at; bytes = bs } })) there
landed_kind session place Copied set at bytes img there = ap (λ (bs : Image). Some (record { session = session; place = place; entry = record { kind = Copied; set = set; at = at; bytes = bs } })) there
landed_kind session place Mark set at bytes img there = ap (λ (bs : Image). Some (record { session = session; place = place; entry = record { kind = Mark; set = set; at = at; bytes = bs } })) there

-- the entry has landed
pub found : (session place : ℕ) (e : Entry) (img : Image) (b : Block) → 514 ≤ length img → length e.bytes ≤ 256 → IsReadable img → IsLandHeader b (header_for session place e)
    → HasLanded (put (put img (area_of place) e.bytes) 1 (b ∷ [])) (header_for session place e) (Some (record { session = session; place = place; entry = e }))
found session place e img b room few readable is = record {
  is = record {
    label = subst (λ (x : Block). IsLabel x landing_label) (sym (label_stays place (length e.bytes) img _ (changes_landed place img e.bytes b))) readable.is.label;
    header = subst (λ (x : Block). IsLandHeader x (header_for session place e)) (sym (header_there place img e.bytes b room)) is;
  };
  landed = landed_kind session place e.kind e.set e.at e.bytes _ (blocks_there place img e.bytes b room few);
}
