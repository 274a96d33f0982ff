-- The state of the streams of a command.
use Rattle.cvss_frame.specs.Marks.{unread}
use Rattle.cvss_frame.specs.Reports.{reported}
use Rattle.cvss_frame.specs.State.{State}
use Rattle.cvss_frame.specs.declared.files.Files as files
use Rattle.cvss_frame.specs.declared.streams.Streams.{Streams}
use Rattle.std.specs.declared.io.traits.Read as read
use Rattle.std.specs.declared.io.traits.Write as write

module _ {H F I O E X : Type 0} {files : files.Ghosts F X} {file : read.Ghosts X} {input : read.Ghosts I}
    {output : write.Ghosts O} {errors : write.Ghosts E} where
  -- what is known of the bytes
  abbrev pub state : Streams H F I O E X files file input output errors → State
  state streams = record {
    contents = files.contents streams.files;
    unread = unread input.remaining streams.input;
    written = output.contents streams.output.writer;
    reported = reported errors.contents streams.errors;
  }
