-- The first line feed is among the next octets, or none of them is one.
use Rattle.std.proofs.Common.{◌+◌, ◌≤◌, length, arith, inl, inr}
use Rattle.std.proofs.lemmas.Bool.{cases_lt}
use Rattle.text_io.proofs.FeedLemmas.{feed-before, feed-found, feed-within}
use Rattle.text_io.proofs.line_ends.first_feed.Goals as goal

pub returns-then-near-lt-LANES-clause-feed : goal.returns-then-near-lt-LANES-clause-feed
returns-then-near-lt-LANES-clause-feed c =
    feed-found c.args.octets.now c.args.looked c.feedless-near.result (omega arith) c.feedless-near.ensures c.if-near-lt-LANES.true

pub returns-then-near-lt-LANES-clause-before : goal.returns-then-near-lt-LANES-clause-before
returns-then-near-lt-LANES-clause-before c = λ k high.
    elim (cases_lt k c.args.looked) [
      | inl early ↦ c.requires.no_feed k early
      | inr late ↦ feed-before c.args.octets.now c.args.looked c.feedless-near.result (omega arith) c.feedless-near.ensures k late high
    ]

pub far_feed-requires-2-clause-no_feed : goal.far_feed-requires-2-clause-no_feed
far_feed-requires-2-clause-no_feed c = λ k high.
    let room : c.args.looked + 32 ≤ length c.args.octets.now = omega arith in
    let within = feed-within c.args.octets.now c.args.looked c.feedless-near.result room c.feedless-near.ensures in
    elim (cases_lt k c.args.looked) [
      | inl early ↦ c.requires.no_feed k early
      | inr late ↦ feed-before c.args.octets.now c.args.looked c.feedless-near.result room c.feedless-near.ensures k late (omega (arith, within))
    ]
