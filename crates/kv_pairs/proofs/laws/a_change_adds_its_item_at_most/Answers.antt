use Rattle.kv_pairs.proofs.PackedSizes.{put_fits, removed_fits, live_fits, empty_size}
use Rattle.kv_pairs.proofs.laws.a_change_adds_its_item_at_most.Goals as goal

pub returns : goal.returns
returns c = record { put = put_fits; removed = removed_fits; live = live_fits; empty = empty_size }
