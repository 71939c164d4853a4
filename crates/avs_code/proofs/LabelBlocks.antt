-- A label and its block.
use Rattle.std.proofs.Common.{◌≡◌, ℕ, ◌<◌, ◌≤◌, ◌^◌, true, length, get_or, take, drop, refl, sym, ◌∙◌, ap, subst, arith}
use Rattle.std.specs.Prelude.{nat_eq, nat_le, codes, ◌++◌, ◌≢◌, ◌==◌, ◌||◌, None}
use Rattle.std.specs.Bool.{Decides}
use Rattle.std.specs.List.{starts_with}
use Rattle.std.proofs.lemmas.Bool.Decides.{Decides-and, Decides-eqb}
use Rattle.std.proofs.lemmas.Nat.{from_be_bytes-to_be_bytes_4, from_be_bytes-to_be_bytes_8}
use Rattle.avs_seg.specs.Image.{Block}
use Rattle.avs_code.specs.Bytes.{zeros, all_zero, u32_bytes, u64_bytes, u32_at, u64_at}
use Rattle.avs_code.specs.Rules.{first_broken}
use Rattle.avs_code.specs.Label.{label_block, label_at, label_field_rules, label_rules, LabelKeeps, LabelFits, IsLabel, is_label_kind, is_label_stamp}
use Rattle.avs_code.specs.declared.labels.Label.{Label}
use Rattle.avs_code.proofs.Ruled.{AllHold, first_broken-None, first_broken-all, Decides-leb, Decides-unless}
use Rattle.avs_code.proofs.Numbers.{front-u32, front-u64, front-zeros, front-magic, all_zero-zeros, u32_at-fits, length-u32_bytes, length-u64_bytes, Begins, written}

-- what is written field by field is the block
pub label_block-written : (x : Label) (b0 b1 b2 b3 b4 b5 : Block) → b0 ≡ codes "AVSVOL01" ++ zeros 504 → b1 ≡ (take 8 b0 ++ u32_bytes x.version) ++ drop 12 b0 → b2 ≡ (take 12 b1 ++ u32_bytes x.kind) ++ drop 16 b1 → b3 ≡ (take 16 b2 ++ u32_bytes x.blocks) ++ drop 20 b2 → b4 ≡ (take 20 b3 ++ u32_bytes x.segments) ++ drop 24 b3 → b5 ≡ (take 24 b4 ++ u64_bytes x.stamp) ++ drop 32 b4 → b5 ≡ label_block x
unfolding label_block
label_block-written x b0 b1 b2 b3 b4 b5 e0 e1 e2 e3 e4 e5 =
    let f0 : Begins b0 (codes "AVSVOL01") 8 504 = record { bytes = e0; place = refl } in
    let f1 = written b1 (u32_bytes x.version) 8 4 500 f0 (length-u32_bytes _) e1 in
    let f2 = written b2 (u32_bytes x.kind) 12 4 496 f1 (length-u32_bytes _) e2 in
    let f3 = written b3 (u32_bytes x.blocks) 16 4 492 f2 (length-u32_bytes _) e3 in
    let f4 = written b4 (u32_bytes x.segments) 20 4 488 f3 (length-u32_bytes _) e4 in
    let f5 = written b5 (u64_bytes x.stamp) 24 8 480 f4 (length-u64_bytes _) e5 in
    f5.bytes

-- what lies in the block are the fields
label_at-label_block : (x : Label) → LabelKeeps x → LabelFits x → label_at (label_block x) ≡ x
unfolding u32_bytes u64_bytes u32_at u64_at label_block
label_at-label_block x keeps fits =
    let version : u32_at 8 (label_block x) ≡ x.version = from_be_bytes-to_be_bytes_4 x.version (omega arith) in
    let kind : u32_at 12 (label_block x) ≡ x.kind = from_be_bytes-to_be_bytes_4 x.kind (omega arith) in
    let blocks : u32_at 16 (label_block x) ≡ x.blocks = from_be_bytes-to_be_bytes_4 x.blocks (omega arith) in
    let segments : u32_at 20 (label_block x) ≡ x.segments = from_be_bytes-to_be_bytes_4 x.segments (omega arith) in
    let stamp : u64_at 24 (label_block x) ≡ x.stamp = from_be_bytes-to_be_bytes_8 x.stamp (omega arith) in
    rw (version, kind, blocks, segments, stamp) refl

pub label_at-is : (block : Block) (x : Label) → IsLabel block x → label_at block ≡ x
label_at-is block x is = ap label_at is.spelled ∙ label_at-label_block x is.keeps is.fits

-- the block of the fields that lie in a block
label_block-label_at : (block : Block) → length block ≡ 512 → ((i : ℕ) → get_or block i 0 < 256) → starts_with nat_eq block (codes "AVSVOL01") ≡ true → all_zero (drop 32 block) ≡ true → block ≡ label_block (label_at block)
unfolding label_block
label_block-label_at block len bytes magic zero =
    let f0 = front-magic block (codes "AVSVOL01") magic in
    let f1 = front-u32 _ block 8 f0 (omega arith) bytes in
    let f2 = front-u32 _ block 12 f1 (omega arith) bytes in
    let f3 = front-u32 _ block 16 f2 (omega arith) bytes in
    let f4 = front-u32 _ block 20 f3 (omega arith) bytes in
    let f5 = front-u64 _ block 24 f4 (omega arith) bytes in
    sym (front-zeros _ block 32 480 f5 zero len)

kind_decides : (k : ℕ) → Decides (is_label_kind k) ((1 ≤ k) × (k ≤ 9))
kind_decides k = Decides-and (nat_le 1 k) (nat_le k 9) (Decides-leb 1 k) (Decides-leb k 9)

stamp_decides : (k t : ℕ) → Decides (is_label_stamp k t) ((t ≤ 2 ^ 62) × (k ≢ 9 → t ≡ 0))
stamp_decides k t = Decides-and (nat_le t (2 ^ 62)) (k == 9 || t == 0) (Decides-leb t (2 ^ 62)) (Decides-unless k 9 t 0)

rules-keeps : (x : Label) → LabelKeeps x → AllHold (label_field_rules x)
rules-keeps x keeps = (
  (Decides-eqb x.version 1).1 keeps.version,
  (
    (kind_decides x.kind).1 (keeps.kind_some, keeps.kind),
    (refl, (refl, ((stamp_decides x.kind x.stamp).1 (keeps.stamp, keeps.stamp_none), tt))),
  ),
)

keeps-rules : (x : Label) → AllHold (label_field_rules x) → LabelKeeps x
keeps-rules x hold =
    let kind = (kind_decides x.kind).0 hold.1.0 in
    let stamp = (stamp_decides x.kind x.stamp).0 hold.1.1.1.1.0 in
    record { version = (Decides-eqb x.version 1).0 hold.0; kind_some = kind.0; kind = kind.1; stamp = stamp.0; stamp_none = stamp.1 }

-- where every rule holds the block stands for the fields that lie in it
pub is_label : (block : Block) → length block ≡ 512 → ((i : ℕ) → get_or block i 0 < 256) → first_broken (label_rules block) ≡ None → IsLabel block (label_at block)
is_label block len bytes none =
    let hold = first_broken-None (label_rules block) none in
    record {
      keeps = keeps-rules (label_at block) (hold.1.0, (hold.1.1.0, (hold.1.1.1.0, (hold.1.1.1.1.0, (hold.1.1.1.1.1.0, tt)))));
      fits = record { blocks = u32_at-fits block 16 bytes; segments = u32_at-fits block 20 bytes };
      spelled = label_block-label_at block len bytes hold.0 hold.1.1.1.1.1.1.0;
    }

-- the magic bytes and the rest of the block
magic-label_block : (x : Label) → starts_with nat_eq (label_block x) (codes "AVSVOL01") ≡ true
unfolding label_block
magic-label_block x = refl

rest-label_block : (x : Label) → all_zero (drop 32 (label_block x)) ≡ true
unfolding u32_bytes u64_bytes label_block
rest-label_block x = all_zero-zeros 480

-- and where the block stands for a label every rule holds
pub rules-is_label : (block : Block) (x : Label) → IsLabel block x → first_broken (label_rules block) ≡ None
rules-is_label block x is =
    let rules = subst (λ l. AllHold (label_field_rules l)) (sym (label_at-is block x is)) (rules-keeps x is.keeps) in
    let magic : starts_with nat_eq block (codes "AVSVOL01") ≡ true = rw is.spelled (magic-label_block x) in
    let rest : all_zero (drop 32 block) ≡ true = rw is.spelled (rest-label_block x) in
    first_broken-all (label_rules block) (magic, (rules.0, (rules.1.0, (rules.1.1.0, (rules.1.1.1.0, (rules.1.1.1.1.0, (rest, tt)))))))
