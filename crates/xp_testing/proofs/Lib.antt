mod Granted
