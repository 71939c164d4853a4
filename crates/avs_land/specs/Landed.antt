-- What has landed on a volume: one entry, told by its header.
use Rattle.std.specs.Prelude.{◌≡◌, ℕ, ◌+◌, ◌*◌, ◌%◌, ◌≤◌, ◌==◌, if◌then◌else◌, min, Option, None, Some, ◌⊎◌, length}
use Rattle.avs_seg.specs.Image.{Image, block_at, range}
use Rattle.avs_code.specs.Header.{IsLandHeader, land_header_rules, most_len}
use Rattle.avs_code.specs.Label.{IsLabel, IsBadLabel, label_for}
use Rattle.avs_code.specs.Rules.{first_broken}
use Rattle.avs_code.specs.declared.labels.Label.{Label}
use Rattle.avs_code.specs.declared.labels.LabelUse.{LabelUse}
use Rattle.avs_code.specs.declared.land_headers.LandHeader.{LandHeader}
use Rattle.avs_model.specs.declared.entry.Entry.{Entry}
use Rattle.avs_model.specs.declared.entry.EntryKind.{EntryKind}
use Rattle.avs_model.specs.declared.entry.EntryKind.TheVariants.{Write, Copied, Mark}
use Rattle.avs_seg.specs.declared.segment.Span.{Span}

-- how many blocks a landing volume has at least: its label, its header and two areas of 256 blocks
abbrev pub landing_blocks : ℕ
landing_blocks = 514

-- the first block of the area that the entry of a place uses
abbrev pub area_of : ℕ → ℕ
area_of place = 2 + 256 * (place % 2)

-- what the label of a landing volume says
abbrev pub landing_use : LabelUse
landing_use = record { kind = 3; blocks = 0; segments = 0 }

abbrev pub landing_label : Label
landing_label = label_for landing_use 0

-- kinds of entries, as headers have them
abbrev pub kind_code : EntryKind → ℕ
kind_code Write = 1
kind_code Copied = 2
kind_code Mark = 3

abbrev pub entry_kind : ℕ → EntryKind
entry_kind code = if code == 1 then Write else (if code == 2 then Copied else Mark)

-- the header of an entry, and that of a volume on which none has landed
abbrev pub header_for : ℕ → ℕ → Entry → LandHeader
header_for session place e = record {
  version = 1;
  session = session;
  place = place;
  kind = kind_code e.kind;
  set = e.set;
  at = e.at;
  len = length e.bytes;
}

abbrev pub no_header : LandHeader
no_header = record { version = 1; session = 0; place = 0; kind = 0; set = 0; at = 0; len = 0 }

-- an entry has as many blocks as its kind allows
pub record IsEntry (e : Entry) : Type 0 where
  pub some : min (most_len (kind_code e.kind)) 1 ≤ length e.bytes
  pub most : length e.bytes ≤ most_len (kind_code e.kind)

-- an entry that has landed, with its session and its place
pub record Landed : Type 0 where
  pub session : ℕ
  pub place : ℕ
  pub entry : Entry

-- the blocks of a header's entry
abbrev pub landed_blocks : LandHeader → Image → Image
landed_blocks h img = range img (area_of h.place) h.len

-- what a header tells of a volume with these blocks
abbrev pub landed_of : LandHeader → Image → Option Landed
landed_of h img =
    if h.kind == 0 then None
    else Some (record {
      session = h.session;
      place = h.place;
      entry = record { kind = entry_kind h.kind; set = h.set; at = h.at; bytes = landed_blocks h img };
    })

-- the session and the place of the entry, and its kind, set and range
abbrev pub settled_of : LandHeader → Option (ℕ × ℕ)
settled_of h = if h.kind == 0 then None else Some (h.session, h.place)

abbrev pub range_of : LandHeader → Option (EntryKind × ℕ × Span)
range_of h = if h.kind == 0 then None else Some (entry_kind h.kind, h.set, record { at = h.at; len = h.len })

-- a volume with these blocks is a landing volume with this header
pub record IsLanding (img : Image) (h : LandHeader) : Type 0 where
  pub label : IsLabel (block_at img 0) landing_label
  pub header : IsLandHeader (block_at img 1) h

-- it is one with some header
pub record IsReadable (img : Image) : Type 0 where
  pub header : LandHeader
  pub is : IsLanding img header

-- on a volume with these blocks this has landed
pub record HasLanded (img : Image) (h : LandHeader) (what : Option Landed) : Type 0 where
  pub is : IsLanding img h
  pub landed : landed_of h img ≡ what

-- the label is right, but the header has a field that breaks its rule
pub record IsBadHeader (img : Image) (field : ℕ) : Type 0 where
  pub label : IsLabel (block_at img 0) landing_label
  pub broken : first_broken (land_header_rules (block_at img 1)) ≡ Some field

-- the field by which a volume is no landing volume: the label is looked at first
abbrev pub IsBadLanding : Image → ℕ → Type 0
IsBadLanding img field = IsBadLabel (block_at img 0) landing_use field ⊎ IsBadHeader img field
