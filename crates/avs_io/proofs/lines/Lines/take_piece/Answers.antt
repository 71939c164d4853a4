use Rattle.std.proofs.Common.{◌≡◌, ◌+◌, ◌≤◌, ◌++◌, ℕ, List, length, ap, refl, arith, length-append}
use Rattle.avs_seg.specs.Lines.{line_limit}
use Rattle.avs_io.proofs.Exits.{OnErr-any}
use Rattle.avs_io.proofs.HeldLemmas.{piece_taken, feed_taken}
use Rattle.avs_io.proofs.lines.Lines.take_piece.Goals as goal

grown_short : (line piece after : List ℕ) → after ≡ line ++ piece → length line + length piece ≤ line_limit → length after ≤ line_limit
grown_short line piece after is fits = omega (arith, ap length is, length-append line piece)

pub returns-then-len-gt-MAX_LINE-clause-piece : goal.returns-then-len-gt-MAX_LINE-clause-piece
returns-then-len-gt-MAX_LINE-clause-piece g c =
    let s = c.args.self.now in
    let piece = c.before_feed-piece.result.now in
    record {
      part = piece;
      loses = record {
        given = refl;
        no_feed = c.before_feed-piece.ensures.no_feed;
        bytes = piece_taken s.buffer piece s.start s.end (g.S.Source.left s.source.now) c.before_feed-piece.ensures;
      };
      long = omega (arith, c.args.line.now.ok.0);
    }

pub returns-in_err-added-clause-lost : goal.returns-in_err-added-clause-lost
returns-in_err-added-clause-lost g c =
    let s = c.args.self.now in
    let piece = c.before_feed-piece.result.now in
    OnErr-any c.from_residual.result _ (
      piece,
      record {
        given = refl;
        no_feed = c.before_feed-piece.ensures.no_feed;
        bytes = piece_taken s.buffer piece s.start s.end (g.S.Source.left s.source.now) c.before_feed-piece.ensures;
      },
    )

pub returns-then-is_fed-clause-piece : goal.returns-then-is_fed-clause-piece
returns-then-is_fed-clause-piece g c =
    let s = c.args.self.now in
    let piece = c.before_feed-piece.result.now in
    let line = c.args.line.now.items in
    let after = c.extend_from_slice-added.new.self.items in
    record {
      part = piece;
      no_feed = c.before_feed-piece.ensures.no_feed;
      given = refl;
      bytes = feed_taken s.buffer piece s.start s.end (g.S.Source.left s.source.now) c.before_feed-piece.ensures c.if-is_fed.true;
      grown = c.in_ok-added.ensures.items;
      short = grown_short line piece after c.in_ok-added.ensures.items (omega (arith, c.args.line.now.ok.0));
    }
