-- What a reply has for the output.
use Rattle.std.specs.Prelude.{ℕ, List, []}
use Rattle.c_core.specs.Text.{code_text}
use Rattle.mypyc_top_status.specs.declared.reply.Output.{Output}
use Rattle.mypyc_top_status.specs.declared.reply.Output.TheVariants.{Nothing, Bytes, Text}

abbrev pub output_text : Output → List ℕ
output_text Nothing = []
output_text (Bytes bytes) = bytes.items
output_text (Text code) = code_text code
