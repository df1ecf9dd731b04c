mod Sized
