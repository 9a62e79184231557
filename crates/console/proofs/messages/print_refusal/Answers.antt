use Rattle.std.proofs.Common.{subst}
use Rattle.std.specs.Io.KnownBytes.{Appends}
use Rattle.console.proofs.Written.{put_shows, on_ok}
use Rattle.console.proofs.messages.print_refusal.Goals as goal

pub returns : goal.returns
returns g c = on_ok c.write_all.result (subst (Appends _ _) (put_shows c.put_refusal-bytes.ensures)) c.write_all.ensures.bytes
