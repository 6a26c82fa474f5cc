-- The examples are computed.
use Rattle.word.proofs.Base.{refl}
use Rattle.word.specs.Word.{of_bits}
use Rattle.word.specs.Size.{height, width}
use Rattle.word.specs.Mask.{masked_when, masked}
use Rattle.word.specs.Logic.{logic}
use Rattle.word.specs.Fill.{carry, exclusive, inclusive, filled}
use Rattle.word.specs.Repeat.{repeated}
use Rattle.word.specs.Choice.{given}
use Rattle.word.specs.Pointer.{pointer, half, moved, passed, next_row}
use Rattle.word.specs.Round.{plus_round, minus_round, moved_round, passed_round}
use Rattle.file.specs.File.{registers, place_in, place, is_register, kept_bits, kept, kept_at, accepted}
use Rattle.area.specs.Setup.{shifts, direction, fill, masks, modulos, setup}
use Rattle.word.specs.Control.{uses}
use Rattle.file.specs.Pointers.{pointer_at}
use Rattle.area.specs.Flow.{pointers, sources, start}
use Rattle.area.specs.Fetch.{fetched, fetch}
use Rattle.area.specs.Finish.{masked_a, result_word, final, finish}
use Rattle.area.specs.Store.{wait, memory_with, count_with, store_pending}
use Rattle.area.specs.Move.{stepped, move_on, turned, row_end}
use Rattle.area.specs.Rows.{finished_word, stored_before, one_word, row_start, one_row, area_blit}
use Rattle.refusal.specs.Touch.{row_touches, touches, leaves, channel_leaves}
use Rattle.refusal.specs.Refusal.{both_fills, fill_upward, step_refusal, refusal}
use Rattle.word.specs.Memory.{memory_size}
use Rattle.round.specs.Between.{between, any_round}
use Rattle.round.specs.Channel.{row_moves, channel_moves, channel_round, area_round}
use Rattle.round.specs.Round.{goes_round}
use Rattle.blit.specs.Blit.{finished, area_done, done, answered, blit}
use Rattle.job.specs.Kind.{kind}
use Rattle.job.specs.Step.{operands, found, begun, front}
use Rattle.job.specs.Steps.{behind, steps_from}
use Rattle.depends.specs.Depends.{changes, counts}
use Rattle.knowledge.specs.Knowledge.{numbers}
use Rattle.stores.specs.Stores.{row_stores, blit_stores, stores, all_zero, final_d}
use Rattle.settled.specs.Words.{stores_words, settled_words}
use Rattle.learning.specs.Learn.{written, may_use, forget_pointer, forget_source, forget_used, forgotten, moved_d}
use Rattle.settled.specs.Settled.{controls_known, only_d_used, sources_known, otherwise_settled, settled}
use Rattle.folder.specs.Fold.{becomes, learned, piece, learned_after, fold_steps, fold_from, fold}
use Rattle.examples.specs.Examples.{examples}
use Rattle.examples.proofs.examples_hold.Goals as goal

pub returns : goal.returns
unfolding fold fold_from fold_steps piece learned_after becomes learned settled otherwise_settled controls_known only_d_used sources_known written forgotten forget_used forget_pointer forget_source may_use moved_d
    settled_words stores_words stores blit_stores row_stores all_zero final_d numbers counts changes steps_from behind front begun found operands kind place place_in is_register registers kept kept_bits kept_at
    step_refusal given both_fills fill_upward channel_leaves leaves touches row_touches next_row repeated setup uses shifts direction fill masks modulos start pointers pointer_at sources pointer half moved passed
    goes_round area_round channel_round channel_moves row_moves between any_round moved_round passed_round plus_round minus_round
    blit answered done area_done finished area_blit refusal memory_size accepted store_pending memory_with count_with wait
    one_word stored_before finished_word finish final result_word masked_a fetch fetched move_on stepped row_start one_row row_end turned filled examples of_bits height width masked_when masked logic carry exclusive inclusive
returns c = refl
