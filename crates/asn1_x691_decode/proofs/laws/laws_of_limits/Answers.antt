use Rattle.std.proofs.Common.{ℕ, ◌≤◌, refl, arith}
use Rattle.asn1_schema.specs.Laws.NarrowLaws.{ContentsAreNarrow}
use Rattle.asn1_x691.specs.Limits.{AreWithin, IsNoLimit}
use Rattle.asn1_x691.specs.Fragments.{most_fragments}
use Rattle.asn1_x691.specs.OpenTypes.{complete}
use Rattle.asn1_x691.specs.Laws.LimitLaws.{NarrowTypes, complete_narrow}
use Rattle.asn1_x691.specs.Laws.TypeLimitLaws.{type_at_narrow}
use Rattle.asn1_x691_decode.specs.declared.context.Context.{Context}
use Rattle.asn1_x691_decode.specs.Decoding.{decoder_limits, most_item_fragments, defaults_in, types}
use Rattle.asn1_x691_decode.specs.Messages.{unlimited_types}
use Rattle.asn1_x691_decode.proofs.laws.laws_of_limits.Goals as goal

few_fragments : most_item_fragments ≤ most_fragments
unfolding most_item_fragments most_fragments
few_fragments = omega arith

within : AreWithin decoder_limits
within = record { string_fragments = omega arith; fragments = omega arith; item_fragments = few_fragments; sets_on_octets = refl }

narrow : (c : Context) (depth node : ℕ) → NarrowTypes (types c depth node) (unlimited_types c depth node)
narrow c depth node =
    type_at_narrow decoder_limits within c.is_aligned c.tables.nodes.now c.tables.members.now c.tables.ranges.now (defaults_in c) depth node

whole : (c : Context) (depth node : ℕ)
    → ContentsAreNarrow IsNoLimit (complete node (types c depth node)) (complete node (unlimited_types c depth node))
whole c depth node = complete_narrow node (types c depth node) (unlimited_types c depth node) (narrow c depth node)

pub returns-clause-limits : goal.returns-clause-limits
returns-clause-limits c = within

pub returns-clause-accepted : goal.returns-clause-accepted
returns-clause-accepted c context depth node = (whole context depth node).fills

pub returns-clause-fault : goal.returns-clause-fault
returns-clause-fault c context depth node = (whole context depth node).fault

pub returns-clause-prefix : goal.returns-clause-prefix
returns-clause-prefix c context depth node at = narrow context depth node at
