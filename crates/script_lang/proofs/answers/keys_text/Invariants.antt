use Rattle.std.proofs.Common.{◌≡◌, ◌++◌, drop, string_bytes}
use Rattle.std.specs.Prelude.{flat_map}
use Rattle.change_log.specs.declared.call.Reply.TheVariants.{Keys}
use Rattle.script_lang.specs.Texts as text
use Rattle.script_lang.proofs.answers.keys_text.Given as goal

abbrev pub invariant-loop-key : goal.invariant-loop-key
invariant-loop-key l = string_bytes l.text ++ flat_map text.further_key (drop l.key-index l.keys) ≡ text.reply_text (Keys l.keys)
