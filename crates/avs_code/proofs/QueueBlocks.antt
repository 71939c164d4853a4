-- A queue's header and its block.
use Rattle.std.proofs.Common.{◌≡◌, ℕ, ◌+◌, ◌<◌, ◌^◌, true, length, get_or, take, drop, refl, sym, ◌∙◌, ap, subst, arith}
use Rattle.std.specs.Prelude.{nat_eq, codes, ◌++◌, None}
use Rattle.std.specs.List.{starts_with}
use Rattle.std.proofs.lemmas.Bool.Decides.{Decides-eqb}
use Rattle.std.proofs.lemmas.Nat.{from_be_bytes-to_be_bytes_4, from_be_bytes-to_be_bytes_8}
use Rattle.avs_seg.specs.Image.{Block}
use Rattle.avs_code.specs.Bytes.{zeros, all_zero, u32_bytes, u64_bytes, u32_at, u64_at}
use Rattle.avs_code.specs.Rules.{first_broken}
use Rattle.avs_code.specs.QueueHeader.{queue_header_block, queue_header_at, queue_field_rules, queue_header_rules, QueueHeaderKeeps, QueueHeaderFits, IsQueueHeader}
use Rattle.avs_code.specs.declared.queue_headers.QueueHeader.{QueueHeader}
use Rattle.avs_code.proofs.Ruled.{AllHold, first_broken-None, first_broken-all, Decides-leb}
use Rattle.avs_code.proofs.Numbers.{front-u32, front-u64, front-zeros, front-magic, all_zero-zeros, u32_at-fits, length-u32_bytes, length-u64_bytes, Begins, written}

-- what is written field by field is the block
pub queue_header_block-written : (x : QueueHeader) (b0 b1 b2 b3 b4 b5 b6 : Block) → b0 ≡ codes "AVSQ" ++ zeros 508 → b1 ≡ (take 4 b0 ++ u32_bytes x.version) ++ drop 8 b0 → b2 ≡ (take 8 b1 ++ u64_bytes x.session) ++ drop 16 b1 → b3 ≡ (take 16 b2 ++ u64_bytes x.first) ++ drop 24 b2 → b4 ≡ (take 24 b3 ++ u64_bytes x.next) ++ drop 32 b3 → b5 ≡ (take 32 b4 ++ u32_bytes x.head) ++ drop 36 b4 → b6 ≡ (take 36 b5 ++ u32_bytes x.used) ++ drop 40 b5 → b6 ≡ queue_header_block x
unfolding queue_header_block
queue_header_block-written x b0 b1 b2 b3 b4 b5 b6 e0 e1 e2 e3 e4 e5 e6 =
    let f0 : Begins b0 (codes "AVSQ") 4 508 = record { bytes = e0; place = refl } in
    let f1 = written b1 (u32_bytes x.version) 4 4 504 f0 (length-u32_bytes _) e1 in
    let f2 = written b2 (u64_bytes x.session) 8 8 496 f1 (length-u64_bytes _) e2 in
    let f3 = written b3 (u64_bytes x.first) 16 8 488 f2 (length-u64_bytes _) e3 in
    let f4 = written b4 (u64_bytes x.next) 24 8 480 f3 (length-u64_bytes _) e4 in
    let f5 = written b5 (u32_bytes x.head) 32 4 476 f4 (length-u32_bytes _) e5 in
    let f6 = written b6 (u32_bytes x.used) 36 4 472 f5 (length-u32_bytes _) e6 in
    f6.bytes

-- what lies in the block are the fields
queue_header_at-queue_header_block : (x : QueueHeader) → QueueHeaderKeeps x → QueueHeaderFits x → queue_header_at (queue_header_block x) ≡ x
unfolding u32_bytes u64_bytes u32_at u64_at queue_header_block
queue_header_at-queue_header_block x keeps fits =
    let version : u32_at 4 (queue_header_block x) ≡ x.version = from_be_bytes-to_be_bytes_4 x.version (omega arith) in
    let session : u64_at 8 (queue_header_block x) ≡ x.session = from_be_bytes-to_be_bytes_8 x.session (omega arith) in
    let first : u64_at 16 (queue_header_block x) ≡ x.first = from_be_bytes-to_be_bytes_8 x.first (omega arith) in
    let next : u64_at 24 (queue_header_block x) ≡ x.next = from_be_bytes-to_be_bytes_8 x.next (omega arith) in
    let head : u32_at 32 (queue_header_block x) ≡ x.head = from_be_bytes-to_be_bytes_4 x.head (omega arith) in
    let used : u32_at 36 (queue_header_block x) ≡ x.used = from_be_bytes-to_be_bytes_4 x.used (omega arith) in
    rw (version, session, first, next, head, used) refl

pub queue_header_at-is : (block : Block) (x : QueueHeader) → IsQueueHeader block x → queue_header_at block ≡ x
queue_header_at-is block x is = ap queue_header_at is.spelled ∙ queue_header_at-queue_header_block x is.keeps is.fits

-- the block of the fields that lie in a block
queue_header_block-queue_header_at : (block : Block) → length block ≡ 512 → ((i : ℕ) → get_or block i 0 < 256) → starts_with nat_eq block (codes "AVSQ") ≡ true → all_zero (drop 40 block) ≡ true → block ≡ queue_header_block (queue_header_at block)
unfolding queue_header_block
queue_header_block-queue_header_at block len bytes magic zero =
    let f0 = front-magic block (codes "AVSQ") magic in
    let f1 = front-u32 _ block 4 f0 (omega arith) bytes in
    let f2 = front-u64 _ block 8 f1 (omega arith) bytes in
    let f3 = front-u64 _ block 16 f2 (omega arith) bytes in
    let f4 = front-u64 _ block 24 f3 (omega arith) bytes in
    let f5 = front-u32 _ block 32 f4 (omega arith) bytes in
    let f6 = front-u32 _ block 36 f5 (omega arith) bytes in
    sym (front-zeros _ block 40 472 f6 zero len)

rules-keeps : (x : QueueHeader) → QueueHeaderKeeps x → AllHold (queue_field_rules x)
rules-keeps x keeps = (
  (Decides-eqb x.version 1).1 keeps.version,
  (
    (Decides-leb x.session (2 ^ 62)).1 keeps.session,
    (
      (Decides-leb x.first (2 ^ 62 + 1)).1 keeps.first,
      (
        (Decides-leb x.next (2 ^ 62 + 1)).1 keeps.next,
        (refl, (refl, tt)),
      ),
    ),
  ),
)

keeps-rules : (x : QueueHeader) → AllHold (queue_field_rules x) → QueueHeaderKeeps x
keeps-rules x hold = record {
  version = (Decides-eqb x.version 1).0 hold.0;
  session = (Decides-leb x.session (2 ^ 62)).0 hold.1.0;
  first = (Decides-leb x.first (2 ^ 62 + 1)).0 hold.1.1.0;
  next = (Decides-leb x.next (2 ^ 62 + 1)).0 hold.1.1.1.0;
}

-- where every rule holds the block stands for the fields that lie in it
pub is_queue_header : (block : Block) → length block ≡ 512 → ((i : ℕ) → get_or block i 0 < 256) → first_broken (queue_header_rules block) ≡ None → IsQueueHeader block (queue_header_at block)
is_queue_header block len bytes none =
    let hold = first_broken-None (queue_header_rules block) none in
    record {
      keeps = keeps-rules (queue_header_at block) (hold.1.0, (hold.1.1.0, (hold.1.1.1.0, (hold.1.1.1.1.0, (hold.1.1.1.1.1.0, (hold.1.1.1.1.1.1.0, tt))))));
      fits = record { head = u32_at-fits block 32 bytes; used = u32_at-fits block 36 bytes };
      spelled = queue_header_block-queue_header_at block len bytes hold.0 hold.1.1.1.1.1.1.1.0;
    }

-- the magic bytes and the rest of the block
magic-queue_header_block : (x : QueueHeader) → starts_with nat_eq (queue_header_block x) (codes "AVSQ") ≡ true
unfolding queue_header_block
magic-queue_header_block x = refl

rest-queue_header_block : (x : QueueHeader) → all_zero (drop 40 (queue_header_block x)) ≡ true
unfolding u32_bytes u64_bytes queue_header_block
rest-queue_header_block x = all_zero-zeros 472

-- and where the block stands for a value every rule holds
pub rules-is_queue_header : (block : Block) (x : QueueHeader) → IsQueueHeader block x → first_broken (queue_header_rules block) ≡ None
rules-is_queue_header block x is =
    let rules = subst (λ y. AllHold (queue_field_rules y)) (sym (queue_header_at-is block x is)) (rules-keeps x is.keeps) in
    let magic : starts_with nat_eq block (codes "AVSQ") ≡ true = rw is.spelled (magic-queue_header_block x) in
    let rest : all_zero (drop 40 block) ≡ true = rw is.spelled (rest-queue_header_block x) in
    first_broken-all (queue_header_rules block) (magic, (rules.0, (rules.1.0, (rules.1.1.0, (rules.1.1.1.0, (rules.1.1.1.1.0, (rules.1.1.1.1.1.0, (rest, tt))))))))
