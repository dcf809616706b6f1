-- What can be seen of a line, with its state of flow control.
use Rattle.std.specs.Prelude.{Option}
use Rattle.xp_relay.specs.declared.state.FlowState.{FlowState}
use Rattle.xp_machine.specs.declared.view.LineView.{LineView}
use Rattle.xp_machine.specs.Channel.{call_of, channel_of}
use Rattle.xp_machine.specs.World.{Line}

abbrev pub view_of : Line → Option FlowState → LineView
view_of line flow = record {
  channel = channel_of line.state;
  identifier = line.identifier;
  call = call_of line.state;
  flow = flow;
  connection = line.connection;
}
