-- The settings of a sender by its plan and the rest.
use Rattle.stream_model.specs.Cut.{Plan}
use Rattle.send_job.specs.declared.settings.Link.{Link}
use Rattle.send_job.specs.Settings.{Settings}

-- A plan and what a link is asked for are settings.
abbrev pub settings_with : Plan → Link → Settings
settings_with plan link = record { plan = plan; idle = link.idle; local = link.local.bytes; peer = link.peer.bytes }
