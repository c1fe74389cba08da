-- Machine: what goes over a socket, by its logs.
use Rattle.std.specs.Prelude.{map, drop}
use Rattle.sb_connection.specs.Traffic.{Traffic}
use Rattle.sb_server.specs.declared.socket.Socket.{Socket}

abbrev pub traffic : Socket → Traffic
traffic s = record {
  reads = map (λ r. (r.0.items, r.1)) s.reads.items;
  writes = map (λ w. (drop w.1.0 w.0.items, w.1.1)) s.writes.items;
}
