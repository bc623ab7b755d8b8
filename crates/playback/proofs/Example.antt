-- The bench session, whole and cut: computed from the definitions.
use mathlib.Core.Path.{◌≡◌, refl}
use lib.ListN.{take}
use Rattle.wire.specs.Buffers.{over}
use Rattle.opcode.specs.Fields.{fault, words_at, rise}
use Rattle.opcode.specs.Commands.{command_of}
use Rattle.opcode.specs.Judgement.{judgement, size_wrong, value_fault}
use Rattle.reply.specs.Reply.{reply_bytes}
use Rattle.settings.specs.Layout.{place_of}
use Rattle.settings.specs.Ranges.{picture_fields, device_fields, right, shape_right, settings_right}
use Rattle.settings.specs.Reset.{reset_shape, reset_block, reset_map, reset_gains}
use Rattle.front_end.specs.State.{stopped}
use Rattle.front_end.specs.Commands.{block_after, written, block_back, data_back, runs_past}
use Rattle.front_end.specs.Mark.{marked_block}
use Rattle.front_end.specs.Step.{number_of, reply_to, step}
use Rattle.text.specs.Text.{digits, hex}
use Rattle.session_file.specs.Session.{is_whole, recorded, matched_by, grown, taken, file_run}
use Rattle.playback.specs.Replay.{reply_buffer, line, lines, closing, text_of, replay_text}
use Rattle.playback.specs.WholeFiles.{example_file, example_text, cut_example_text}

pub example : replay_text example_file ≡ example_text
unfolding over fault words_at rise command_of judgement size_wrong value_fault reply_bytes place_of picture_fields device_fields right shape_right settings_right reset_shape reset_block reset_map reset_gains stopped marked_block block_after written block_back data_back runs_past number_of reply_to step digits hex is_whole recorded matched_by grown taken file_run reply_buffer line lines closing text_of replay_text
example = refl

pub cut-example : replay_text (take 18 example_file) ≡ cut_example_text
unfolding over fault words_at rise command_of judgement size_wrong value_fault reply_bytes place_of picture_fields device_fields right shape_right settings_right reset_shape reset_block reset_map reset_gains stopped marked_block block_after written block_back data_back runs_past number_of reply_to step digits hex is_whole recorded matched_by grown taken file_run reply_buffer line lines closing text_of replay_text
cut-example = refl
